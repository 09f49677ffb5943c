use Rattle.do_packet.proofs.packing.walk.Walk.copied.Goals as goal
use Rattle.std.proofs.Common.{refl}
use Rattle.do_packet.{specs.Seen.sender, proofs.Following.{walked_bare, zip_none}}

pub returns-in_default-slots : goal.returns-in_default-slots
returns-in_default-slots g c =
    let s = sender c.args.table.now c.args.from (g.V.View.sees c.args.view.now) in
    let d = c.slots.ensures in
    let e = c.class_of.ensures in
    let h = c.in_default-slots.is in
    let k = c.in-Some.is in
    rw c.bare-in_default-slots.ensures
    (walked_bare s c.args.oid c.args.self.now c.in-Some.class (rw (← e, k) refl)
    (rw (← d, h) (zip_none _)))
