use Rattle.do_pboard.proofs.board.Board.perform.Goals as goal
use Rattle.std.proofs.{Common.{◌≡◌, ◌∷◌}, lemmas.Result.IfOk-weaker}
use Rattle.do_native_acts.specs.laws.HistoryLaws.{after_call}
use Rattle.do_pboard.specs.{Calls.does, Core.empty}

pub returns-clause-history : goal.returns-clause-history
returns-clause-history c =
    λ h is. IfOk-weaker c.answer.result _ _ (λ answer done.
    after_call empty does h c.args.call c.args.self.now c.answer.new.self answer is done)
    c.answer.ensures.done
