use Rattle.do_rules.proofs.judged.Run.deliver.Goals as goal
use Rattle.std.proofs.Common.{◌≡◌, OnOk, ap, subst, ◌∙◌}
use Rattle.do_machine.specs.declared.state.Effect.{Effect}
use Rattle.do_rules.{specs.{Delivery.delivered, Judged.run_of}, proofs.Deliveries.delivery_is}

pub returns : goal.returns
returns c =
    subst (λ (e : Effect). OnOk c.hand_over.result (c.hand_over.new.effect ≡ e))
    (ap (delivered (run_of c.args.self.now)) c.in_ok-delivery.ensures
    ∙ delivery_is (run_of c.args.self.now) c.args.answer c.args.self.now.top.now.reason)
    c.hand_over.ensures
