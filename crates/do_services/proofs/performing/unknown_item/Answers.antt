use Rattle.do_services.proofs.performing.unknown_item.Goals as goal
use Rattle.std.proofs.Common.{◌≡◌, ◌∙◌, ◌∷◌, ◌++◌, [], List as Listed, ap, pos, subst}
use Rattle.std.specs.Prelude.{codes}
use Rattle.do_base.specs.declared.values.value.Value.{Value, TheVariants.{Nil, Num, Text}}
use Rattle.do_behave.specs.{Changes.Means, declared.change.LocalSet.LocalSet}
use Rattle.do_native_acts.specs.Steps.{set}
use Rattle.do_services.specs.Acts.{keeps_on}

-- the three locals are set one behind the other
pub returns : goal.returns
returns c =
    let inv = c.args.inv.now in
    let error = Text (codes "unknown item") in
    let one : c.put.new.sets ≡ set 2 error ∷ [] =
    c.in_ok-put.ensures.ok
    ∙ ap (λ (xs : Listed LocalSet). xs ++ set 2 c.in_ok-text_value.field-0 ∷ [])
    c.sets_of-sets.ensures
    ∙ ap (λ (v : Value). set 2 v ∷ []) c.in_ok-text_value.ensures in
    let two : c.put-2.new.sets ≡ set 2 error ∷ set 3 Nil ∷ [] =
    c.in_ok-put-2.ensures.ok ∙ ap (λ (xs : Listed LocalSet). xs ++ set 3 Nil ∷ []) one in
    let three : c.put-3.new.sets ≡ set 2 error ∷ set 3 Nil ∷ set 14 (Num (pos 0)) ∷ [] =
    c.in_ok-put-3.ensures.ok ∙ ap (λ (xs : Listed LocalSet). xs ++ set 14 (Num (pos 0)) ∷ []) two in
    subst (λ (xs : Listed LocalSet). Means inv c.keeps_on.result (keeps_on inv 8 xs)) three
    c.keeps_on.ensures
