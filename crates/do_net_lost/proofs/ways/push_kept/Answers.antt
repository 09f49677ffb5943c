use Rattle.do_net_lost.proofs.ways.push_kept.Goals as goal
use Rattle.std.proofs.Common.{◌≡◌, Ok}
use Rattle.do_frames.specs.Frames.{after_frame}
use Rattle.do_net.specs.Lanes.{frame_in}
use Rattle.do_network.specs.Frames.{read_frame}
use Rattle.do_net_lost.proofs.LaneTurn.{read_turn}

-- a frame that was read names what its item names
pub returns-in_ok-push_frame-in-Some-clause-added :
    goal.returns-in_ok-push_frame-in-Some-clause-added
returns-in_ok-push_frame-in-Some-clause-added c = λ behind.
    let names = c.args.names.now in
    let raw = frame_in c.in-Frame.bytes in
    let came : (read_frame c.args.table.now c.args.way.now.from c.args.way.now.to names raw
    ≡ Ok c.in-Some.frame) × (c.read.new.names ≡ after_frame names c.in-Some.frame) =
    rw c.in-Some.is at c.in_ok-frame.ensures.read in
    rw c.in-Frame.is (read_turn c.args.table.now c.args.way.now.from c.args.way.now.to names
    c.read.new.names raw c.args.objects.now behind c.in-Some.frame c.push_frame.new.objects came.0
    came.1 c.in_ok-push_frame-in-Some.ensures)
