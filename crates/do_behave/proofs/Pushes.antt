-- A push, as the act that it is.
use Rattle.std.proofs.Common.{◌≡◌, ℕ, List as Listed, [], ◌∷◌, ◌++◌, Option, Some, sym, ◌∙◌, ap}
use Rattle.std.{proofs.Common.{true, subst}, specs.Prelude.{if◌then◌else◌, slice_set, IsSomeAnd}}
use Rattle.do_base.specs.{values.Kinds.items, declared.values.value.Value.{Value, List}}
use Rattle.do_base.specs.declared.events.exception.Exc.TheVariants.{Range}
use Rattle.do_grammar.specs.Words.{◌>>?◌}
use Rattle.do_behave.specs.{Changes.Means, Lists.{can_be, gives_list, pushes}}
use Rattle.do_behave.specs.{LongerList.{FitsIn, longer_at}, Steps.{local, next, gives, or_fault}}
use Rattle.do_behave.specs.{laws.ValueKinds.items-List, declared.invocation.Invocation.Invocation}
use Rattle.do_behave.specs.declared.act.Act.{Act, TheVariants.{Step, Raise}}
use Rattle.do_behave.specs.declared.change.Change.TheVariants.{Push}
use Rattle.do_behave.proofs.{KnownWeights.{fits_list, longer_list}, ListUpdates.set_longer}

module _ (inv : Invocation) (list item : ℕ) (vs : Listed Value) (v : Value)
    (at_list : local inv list ≡ Some (List vs)) (at_item : local inv item ≡ Some v)
    (fits : can_be (vs ++ v ∷ []) ≡ true) where
  -- what a push does to the list that is found
  abbrev pushed : Listed Value → Option Act
  pushed ws = local inv item >>? λ x. Some (gives_list inv list (ws ++ x ∷ []))

  -- it gives the longer list, since that keeps the limits
  pushes_is : pushes inv list item ≡ Some (gives inv list (List (vs ++ v ∷ [])))
  pushes_is =
      ap (λ o. o >>? items >>? pushed) at_list
      ∙ ap (λ o. o >>? pushed) (items-List vs)
      ∙ ap (λ o. o >>? λ x. Some (gives_list inv list (vs ++ x ∷ []))) at_item
      ∙ ap (λ b. Some (if b then gives inv list (List (vs ++ v ∷ [])) else Raise Range)) fits

  -- the list in its place is longer then
  in_place : slice_set inv.locals list (List (vs ++ v ∷ [])) ≡ longer_at inv.locals list v
  in_place =
      set_longer inv.locals list (List vs) (List (vs ++ v ∷ [])) v at_list (sym (longer_list vs v))

-- where an item fits into a list, the change that pushes it is the act of a push
pub push_means : (inv : Invocation) (list item : ℕ) (vs : Listed Value) (v : Value) (weight : ℕ)
    → local inv list ≡ Some (List vs) → local inv item ≡ Some v → FitsIn (List vs) v weight
    → Means inv (Push list v weight (next inv)) (or_fault (pushes inv list item))
push_means inv list item vs v weight at_list at_item fits =
    let limits = fits_list vs v weight fits in
    record {
      is =
          ap (λ ls. Step (next inv) ls inv.handler [])
          (sym (in_place inv list item vs v at_list at_item limits.0))
          ∙ sym (ap or_fault (pushes_is inv list item vs v at_list at_item limits.0));
      fits =
          subst (λ o. IsSomeAnd o (λ value. FitsIn value v weight)) (sym at_list) fits;
    }
