use Rattle.do_pboard.proofs.board.Board.data_for.Goals as goal
use Rattle.std.proofs.{Common.◌∙◌, lemmas.Result.IfOk-weaker}
use Rattle.do_pboard.proofs.IsTold.{data_told}

pub returns-clause-meaning : goal.returns-clause-meaning
returns-clause-meaning c =
    λ h is. IfOk-weaker c.found.result _ _ (λ seen same.
    same ∙ data_told h c.args.self.now c.args.kind.now is) c.found.ensures
