-- The names that were sent so far.
use Rattle.do_effects.proofs.sending.name_all.Given as goal
use Rattle.std.proofs.Common.{drop}
use Rattle.do_effects.proofs.NamingLoop.{IsNaming}

-- naming the rest as well names all
abbrev pub invariant-loop-name : goal.invariant-loop-name
invariant-loop-name l =
    IsNaming l.to l.names (drop l.name-index l.names) l.name-index l.initial.part l.part.own
    l.part.room
