use Rattle.do_packet.proofs.packing.walk.Walk.object.Goals as goal
use Rattle.std.proofs.Common.{refl, sym, ◌∙◌}
use Rattle.do_packet.proofs.Walks.{walked_copy, walked_name, walked_nil}

pub returns-in_ok-meet-in-Copied : goal.returns-in_ok-meet-in-Copied
returns-in_ok-meet-in-Copied g c =
    rw c.in_ok-meet-in-Copied.ensures.place
    (walked_copy (g.V.View.sees c.args.view.now) c.args.from c.args.copy c.args.oid _ _
    (sym c.role_at.ensures ∙ c.in-Copied.is) c.in_ok-meet-in-Copied.ensures.met refl)

pub returns-in_ok-meet-in-Named : goal.returns-in_ok-meet-in-Named
returns-in_ok-meet-in-Named g c =
    rw c.in_ok-meet-in-Named.ensures.place
    (walked_name (g.V.View.sees c.args.view.now) c.args.from c.args.copy c.args.oid _ _
    (sym c.role_at.ensures ∙ c.in-Named.is) refl c.in_ok-meet-in-Named.ensures.met)

pub returns-in-Absent : goal.returns-in-Absent
returns-in-Absent g c =
    walked_nil (g.V.View.sees c.args.view.now) c.args.from c.args.copy c.args.oid _
    (sym c.role_at.ensures ∙ c.in-Absent.is)
