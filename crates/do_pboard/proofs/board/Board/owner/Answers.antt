use Rattle.do_pboard.proofs.board.Board.owner.Goals as goal
use Rattle.std.proofs.{Common.arith, lemmas.Grind.common_steps}
use Rattle.do_pboard.proofs.IsTold.{owner_told}

pub returns-clause-meaning : goal.returns-clause-meaning
returns-clause-meaning c =
    λ h is. let told = owner_told h c.args.self.now is in grind (arith, common_steps, told)
