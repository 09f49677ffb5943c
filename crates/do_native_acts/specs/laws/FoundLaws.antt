-- What holds of what is found or chosen, where it holds on each way there.
use Rattle.std.proofs.Common.{◌≡◌, Bool, Option, Some, None, refl, subst}
use Rattle.std.specs.{Prelude.if◌then◌else◌, Option.{IfSome, option_map}}
use Rattle.std.proofs.lemmas.Bool.{cond_both}
use Rattle.do_grammar.specs.Words.{◌>>?◌}

module _ {A : Type 0} (P : A → Type 0) where
  -- what holds of what may be found holds of what was
  pub of_found : (o : Option A) (x : A) → o ≡ Some x → IfSome o P → P x
  of_found o x is held = subst (λ p. IfSome p P) is held

  -- what holds of each of two holds of the one that is chosen
  pub of_chosen : (b : Bool) (x y : A) → P x → P y → P (if b then x else y)
  of_chosen b x y one other = cond_both b x y P (λ _. one) (λ _. other)

  -- of two that may be found, one is chosen
  pub if_chosen : (b : Bool) (one other : Option A) → IfSome one P → IfSome other P
      → IfSome (if b then one else other) P
  if_chosen b one other first second =
      cond_both b one other (λ o. IfSome o P) (λ _. first) (λ _. second)

  -- what there is room for
  pub if_room : (b : Bool) (x : A) → P x → IfSome (if b then Some x else None) P
  if_room b x held = if_chosen b (Some x) None held tt

  -- what is found leads on
  pub if_found : {B : Type 0} (o : Option B) (f : B → Option A)
      → ((x : B) → o ≡ Some x → IfSome (f x) P) → IfSome (o >>? f) P
  if_found None f each = tt
  if_found (Some x) f each = each x refl

  -- what is found is mapped
  pub if_mapped : {B : Type 0} (f : B → A) (o : Option B) → IfSome o (λ x. P (f x))
      → IfSome (option_map f o) P
  if_mapped f None held = tt
  if_mapped f (Some x) held = held
