use Rattle.do_pboard.proofs.board.Board.types.Goals as goal
use Rattle.std.proofs.{Common.◌∙◌, lemmas.Result.IfOk-weaker}
use Rattle.do_pboard.proofs.IsTold.{types_told}

pub returns-clause-meaning : goal.returns-clause-meaning
returns-clause-meaning c =
    λ h is. IfOk-weaker c.type_names.result _ _ (λ names same.
    same ∙ types_told h c.args.self.now is) c.type_names.ensures
