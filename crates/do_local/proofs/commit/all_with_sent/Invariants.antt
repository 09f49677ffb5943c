-- Each queue so far has what was sent to its peer.
use Rattle.do_local.proofs.commit.all_with_sent.Given as goal
use Rattle.std.proofs.Common.{◌≡◌, map, take}
use Rattle.do_machine.specs.Commit.{with_sent}

abbrev pub invariant-loop-queue : goal.invariant-loop-queue
invariant-loop-queue l =
    l.after ≡ map (with_sent l.sent) (take l.queue-index l.queue-items)
