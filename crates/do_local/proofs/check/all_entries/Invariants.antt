-- The entries of the peers so far.
use Rattle.do_local.proofs.check.all_entries.Given as goal
use Rattle.std.{proofs.Common.{◌≡◌, take}, specs.List.flat_map}
use Rattle.do_machine.specs.check.Snapshot.{entries_for}

abbrev pub invariant-loop-peer : goal.invariant-loop-peer
invariant-loop-peer l =
    l.entries ≡ flat_map (entries_for l.state l.node) (take l.peer-index l.peer-items)
