-- The entries of the objects so far.
use Rattle.do_local.proofs.check.entries_for.Given as goal
use Rattle.std.proofs.Common.{◌≡◌, filter, map, take}
use Rattle.do_machine.specs.{Entry.has_entry, State.own, check.Snapshot.entry_of}

abbrev pub invariant-loop-stored : goal.invariant-loop-stored
invariant-loop-stored l =
    l.entries ≡ map (entry_of l.peer) (filter (has_entry l.state l.peer)
    (map (λ x. own l.node x.serial) (take l.stored-index l.stored-items)))
