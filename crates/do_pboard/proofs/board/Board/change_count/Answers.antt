use Rattle.do_pboard.proofs.board.Board.change_count.Goals as goal
use Rattle.std.proofs.{Common.arith, lemmas.Grind.common_steps}
use Rattle.do_pboard.proofs.IsTold.{count_told}

pub returns-clause-meaning : goal.returns-clause-meaning
returns-clause-meaning c =
    λ h is. let told = count_told h c.args.self.now is in grind (arith, common_steps, told)
