-- What a node of a world writes that serves is read as the record of the inputs that it did.
use Rattle.std.proofs.Common.{◌≡◌, ◌<◌, ℕ, List, arith, map, subst, sym}
use Rattle.std.specs.List.{AllByRecursion}
use Rattle.do_at_hand.specs.AtHand.{ShowsNames}
use Rattle.do_class.specs.Class.{Class}
use Rattle.do_limits.specs.SendableActs.{KeepsSendable}
use Rattle.do_link.specs.Told.{Told}
use Rattle.do_machine.specs.{World.{IsSeat, IsWorld, by_port}, declared.state.Seat.Seat}
use Rattle.do_machine.specs.run.Run.{Acting}
use Rattle.do_net.specs.Seen.{Seen, at_rest}
use Rattle.do_network.specs.Net.{opening_part}
use Rattle.do_serve.specs.{Hosting.site_rules, Serving.{Server, serve_from}}
use Rattle.do_showable.{proofs.Inputs.lines_stand, specs.Shows.AllMayStand}
use Rattle.do_recorded.specs.Chain.{CameAsBytes, IsServer, ReadsBack}
use Rattle.do_recorded.proofs.{Read.{may_come, reads_back}, Served.serves}

-- whatever the peers send
pub served_read : (table : List Class) (act : Acting) (seats : List Seat) (seat : Seat) (turns : ℕ)
    (s : Server Seen) (told : List Told) → IsWorld table seats → IsSeat table seat →
    KeepsSendable table act → ShowsNames table act →
    s.core.part ≡ at_rest table act (opening_part table (map (λ x. x.node) (by_port seats)) seat) →
    IsServer s → AllByRecursion CameAsBytes told → turns < 70368744177664 →
    ReadsBack seat.node s (serve_from site_rules seat.node turns s told)
served_read table act seats seat turns s told world is keeps names opens server small few =
    let port = seat.node in
    let r = serve_from site_rules port turns s told in
    let d = serves site_rules port is.port turns s told server small in
    reads_back port is.port turns s r d
    (subst (λ (x : Seen). AllMayStand x.table x.act x.part d.inputs) (sym opens)
    (lines_stand table act (map (λ x. x.node) (by_port seats)) seat d.inputs world.classes
    world.signatures is keeps names (may_come port is.port turns s r d)
    (omega (arith, d.few, few))))
