use Rattle.do_pboard.proofs.board.Board.add_types.Goals as goal
use Rattle.std.proofs.{Common.{◌≡◌, true, nat_lt, nat_le, length, arith}, lemmas.Grind.common_steps}
use Rattle.do_pboard.{specs.{Changes.with_types, Core.Pasteboard}, proofs.CoreLaws.added_board}

pub invariant_of-self : goal.invariant_of-self
invariant_of-self c =
    let inside = c.self.inside in
    let b : Pasteboard =
    record {
      count = inside.count;
      owner = inside.owner;
      types = inside.types;
      boards = inside.boards;
    } in
    let above : nat_lt 0 b.count ≡ true = grind (arith, common_steps) in
    let few : nat_le (length (with_types b.types c.args.types)) 64 ≡ true =
    grind (arith, common_steps) in
    let new = added_board b c.args.types c.self.invariant c.requires above few in
    grind (arith, common_steps, new)
