use Rattle.do_center.proofs.center.Center.perform.Goals as goal
use Rattle.std.proofs.{Common.[], lemmas.Result.IfOk-weaker}
use Rattle.do_native_acts.specs.laws.HistoryLaws.{after_call}
use Rattle.do_center.specs.Calls.{does}

pub returns-clause-history : goal.returns-clause-history
returns-clause-history c =
    λ h is. IfOk-weaker c.answer.result _ _ (λ sent done.
    after_call ([], []) does h c.args.call c.args.self.now c.answer.new.self sent is done)
    c.answer.ensures.done
