use Rattle.do_pboard.proofs.board.Board.from_others.Goals as goal
use Rattle.std.proofs.{Common.{◌≡◌, Some, arith}, lemmas.Grind.common_steps}
use Rattle.do_pboard.specs.{Core.types_read, laws.SlotsExact.declared_back}

pub of_parts-requires-clause-types : goal.of_parts-requires-clause-types
of_parts-requires-clause-types c =
    let types = c.args.types.now in
    let kept = c.args.kept.now in
    let read : types_read types kept ≡ Some c.in-Some.types = grind (arith, common_steps) in
    (declared_back types kept c.in-Some.types read).2
