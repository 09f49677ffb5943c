-- The classes of the objects so far that are new.
use Rattle.do_local.proofs.commit.born.Given as goal
use Rattle.std.{proofs.Common.{◌≡◌, filter, map, take}, specs.Prelude.nat_le}

abbrev pub invariant-loop-stored : goal.invariant-loop-stored
invariant-loop-stored l =
    l.classes ≡ map (λ x. x.class)
    (filter (λ x. nat_le l.next x.serial) (take l.stored-index l.stored-items))
