use Rattle.do_site.proofs.work.Work.end_if_taken.Goals as goal
use Rattle.std.proofs.Common.{◌≡◌, true, cond, Some, None, [], refl, sym, subst, ◌∙◌}
use Rattle.do_machine.specs.{declared.item.Item.TheVariants.End, take.Take.{can_take, take_effect}}
use Rattle.do_network.specs.Own.{site_context}
use Rattle.do_site.specs.Steps.{Does}

-- an end that can be taken is taken
pub returns-clause-done : goal.returns-clause-done
returns-clause-done c table =
    let old = c.args.self.now in
    let can : can_take c.args.peer old.core.part.own.node ≡ true =
    sym c.can_take.ensures ∙ c.if-not-can_take.false in
    subst (λ b. Does old.core c.end.new.self.core true (cond b
    (Some (take_effect (site_context table old.core.part.own) c.args.peer (End []))) None))
    (sym can) (refl, c.in_ok-end.ensures.ok table)
