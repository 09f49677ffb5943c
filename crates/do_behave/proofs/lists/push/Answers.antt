use Rattle.do_behave.proofs.lists.push.Goals as goal
use Rattle.std.proofs.Common.{◌≡◌, Some, sym, ◌∙◌, subst, ap}
use Rattle.do_base.specs.declared.values.value.Value.{List}
use Rattle.do_behave.{specs.{LongerList.FitsIn, Steps.local}, proofs.Pushes.push_means}

pub returns : goal.returns
returns c =
    let item = c.in-Some-Some.item.now in
    let list : local c.args.inv.now c.args.list ≡ Some (List c.in-List.items) =
    sym c.in-Some-Some.ensures.value ∙ ap Some (sym c.value-value.ensures ∙ c.in-List.is) in
    rw c.in_ok-item.ensures
    (push_means c.args.inv.now c.args.list c.args.item c.in-List.items item c.in-Some.weight list
    (sym c.in-Some-Some.ensures')
    (subst (λ value. FitsIn value item c.in-Some.weight) c.in-List.is c.in-Some.ensures.some))
