use Rattle.do_center.proofs.center.Center.to_slots.Goals as goal
use Rattle.std.proofs.{Common.{◌≡◌, Some, ◌∙◌, ap, arith}, lemmas.Grind.common_steps}
use Rattle.do_center.{specs.{Seats.Core, Slots.{from_slots, to_slots}}, proofs.SlotsExact.from_to}

pub returns-clause-exact : goal.returns-clause-exact
returns-clause-exact c =
    let core : Core = (c.self.inside.seats, c.self.inside.suspended) in
    let value : c.in_ok-slots.slots ≡ to_slots core = grind (arith, common_steps) in
    ap from_slots value ∙ from_to core c.self.invariant ∙ ap Some c.self.view_is
