use Rattle.do_pboard.proofs.types.has_room.Goals as goal
use Rattle.std.proofs.{Common.{◌≡◌, ◌+◌, ◌∙◌, ap, length, arith}, lemmas.Grind.common_steps}
use Rattle.do_native_acts.specs.Types.{are_types}
use Rattle.do_pboard.specs.{Changes.{count_new, with_types}, Core.bare}
use Rattle.do_pboard.specs.laws.SlotsExact.{declared_parts}
use Rattle.do_pboard.proofs.{TypesAdded.keys_bare, TypesLater.length_joined}

pub returns : goal.returns
returns c =
    let types = c.args.types.now in
    let more = declared_parts (bare types) (ap are_types (keys_bare types) ∙ c.requires.types) in
    let all : length (with_types c.args.table.now types)
    ≡ length c.args.table.now + count_new c.args.table.now types =
    length_joined c.args.table.now types more.2 in
    grind (arith, common_steps, all)
