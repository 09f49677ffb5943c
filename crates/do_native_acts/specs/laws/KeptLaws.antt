-- What holds of each item of a list holds of what is found in it, led to or left.
use Rattle.std.proofs.Common.{ℕ, zero, suc, ◌≤◌, List as Listed, [], ◌∷◌, length, arith}
use Rattle.std.{proofs.Common.length-append, specs.Prelude.{Bool, slice_get}}
use Rattle.std.specs.{List.{All, flat_map}, Map.remove_entry, Option.IfSome}
use Rattle.std.proofs.lemmas.Bool.{cond_both}
use Rattle.std.proofs.lemmas.List.Elements.{All-nil, All-cons, All-head, All-tail, All-append}

-- what leads to one at most makes a list no longer
pub flat_fewer : {A B : Type 0} (f : A → Listed B) → ((x : A) → length (f x) ≤ 1) → (xs : Listed A)
    → length (flat_map f xs) ≤ length xs
flat_fewer f one [] = omega arith
flat_fewer f one (x ∷ xs) =
    omega (arith, length-append (f x) (flat_map f xs), one x, flat_fewer f one xs)

module _ {A : Type 0} (P : A → Type 0) where
  -- what holds of everything holds of all items
  pub each_holds : ((x : A) → P x) → (xs : Listed A) → All P xs
  each_holds each [] = All-nil P
  each_holds each (x ∷ xs) = All-cons P x xs (each x) (each_holds each xs)

  -- the item at a place
  pub kept_at : (xs : Listed A) (k : ℕ) → All P xs → IfSome (slice_get xs k) P
  kept_at [] k all = tt
  kept_at (x ∷ xs) zero all = All-head P x xs all
  kept_at (x ∷ xs) (suc k) all = kept_at xs k (All-tail P x xs all)

  -- what each item leads to
  pub kept_flat : {B : Type 0} (Q : B → Type 0) (f : A → Listed B) → ((x : A) → P x → All Q (f x))
      → (xs : Listed A) → All P xs → All Q (flat_map f xs)
  kept_flat Q f each [] all = All-nil Q
  kept_flat Q f each (x ∷ xs) all =
      All-append Q (f x) (flat_map f xs) (each x (All-head P x xs all))
      (kept_flat Q f each xs (All-tail P x xs all))

-- entries without one
pub kept_entries : {K V : Type 0} (P : K × V → Type 0) (test : K → Bool) (es : Listed (K × V))
    → All P es → All P (remove_entry test es)
kept_entries P test [] all = all
kept_entries P test (e ∷ es) all =
    let rest = All-tail P e es all in
    cond_both (test e.0) es (e ∷ remove_entry test es) (All P) (λ _. rest)
    (λ _. All-cons P e (remove_entry test es) (All-head P e es all)
    (kept_entries P test es rest))
