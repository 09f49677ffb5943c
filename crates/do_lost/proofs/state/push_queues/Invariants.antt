-- What the queues up to here name was added.
use Rattle.do_lost.proofs.state.push_queues.Given as goal
use Rattle.std.{proofs.Common.{◌≡◌, ◌++◌, take}, specs.List.flat_map}
use Rattle.do_lost.specs.Named.{queue_names}

abbrev pub invariant-loop-queue : goal.invariant-loop-queue
invariant-loop-queue l =
    l.objects ≡ l.fn.objects ++ flat_map (queue_names l.state l.station.port)
    (take l.queue-index l.queue-items)
