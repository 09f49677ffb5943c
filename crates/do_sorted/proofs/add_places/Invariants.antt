use Rattle.do_sorted.proofs.add_places.Given as goal
use Rattle.std.proofs.Common.{◌-◌, ◌≤◌, vec_len, vec_capacity}

-- there are no fewer places than at first, no more than are wanted, and room for all of these
abbrev pub invariant-loop-alloc : goal.invariant-loop-alloc
invariant-loop-alloc g l =
    (l.had ≤ vec_len l.free) × (vec_len l.free ≤ l.all) × (l.all ≤ vec_capacity l.free)
    × (vec_capacity l.initial.free ≤ vec_capacity l.free)

-- each turn adds a place
abbrev pub decreases-loop-alloc : goal.decreases-loop-alloc
decreases-loop-alloc g l = l.all - vec_len l.free
