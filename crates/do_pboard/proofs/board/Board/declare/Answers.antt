use Rattle.do_pboard.proofs.board.Board.declare.Goals as goal
use Rattle.std.proofs.Common.{◌≡◌, ◌+◌, List, IsTrue, true, sym, subst, arith}
use Rattle.std.proofs.lemmas.Grind.{common_steps}
use Rattle.do_pboard.specs.{Changes.can_grow, Core.{Declared, Pasteboard, bare, is_board}}
use Rattle.do_pboard.proofs.CoreLaws.{declared_board}

pub invariant_of-self : goal.invariant_of-self
invariant_of-self c =
    let inside = c.self.inside in
    let b : Pasteboard =
    record {
      count = inside.count;
      owner = inside.owner;
      types = inside.types;
      boards = inside.boards;
    } in
    let room : can_grow b.count ≡ true = grind (arith, common_steps) in
    let same : c.in-Some.table ≡ bare c.args.types = grind (arith, common_steps) in
    subst
    (λ (ts : List Declared). IsTrue (is_board (record {
      count = b.count + 1;
      owner = c.args.owner;
      types = ts;
      boards = b.boards;
    })))
    (sym same)
    (declared_board b c.args.types c.args.owner c.self.invariant c.requires.types room)
