use Rattle.do_pboard.proofs.board.Board.set_data.Goals as goal
use Rattle.std.proofs.{Common.{Some, arith}, lemmas.Grind.common_steps}
use Rattle.do_pboard.{specs.Core.Pasteboard, proofs.CoreLaws.supplied_board}

pub invariant_of-self : goal.invariant_of-self
invariant_of-self c =
    let inside = c.self.inside in
    let b : Pasteboard =
    record {
      count = inside.count;
      owner = inside.owner;
      types = inside.types;
      boards = inside.boards;
    } in
    let new = supplied_board b c.args.kind.now (Some c.args.content) c.self.invariant in
    grind (arith, common_steps, new)
