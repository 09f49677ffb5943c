use Rattle.do_pboard.proofs.board.Board.keep.Goals as goal
use Rattle.std.proofs.{Common.{◌≡◌, None, arith}, lemmas.Grind.common_steps}
use Rattle.do_table.specs.{Entries.value_of, laws.TableLaws.added_absent}
use Rattle.do_pboard.{specs.Core.Pasteboard, proofs.CoreLaws.kept_board}

pub invariant_of-self-in-None : goal.invariant_of-self-in-None
invariant_of-self-in-None c =
    let inside = c.self.inside in
    let b : Pasteboard =
    record {
      count = inside.count;
      owner = inside.owner;
      types = inside.types;
      boards = inside.boards;
    } in
    let absent : value_of b.boards c.args.name ≡ None = grind (arith, common_steps) in
    let added = added_absent b.boards c.args.name c.args.board absent in
    let longer =
    kept_board b c.args.name c.args.board c.self.invariant absent (grind (arith, common_steps)) in
    grind (arith, common_steps, added, longer)
