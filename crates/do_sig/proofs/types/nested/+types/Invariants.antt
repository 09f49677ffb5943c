use Rattle.do_sig.proofs.types.nested.+types.Given as goal
use Rattle.std.proofs.Common.{◌≡◌, ◌+◌, ◌*◌, length}
use Rattle.do_grammar.{specs.{Reader.until, Grammar.IsBytes}, proofs.loops.TimesLoop.with_front}
use Rattle.do_sig.specs.reading.Types.{type_at}

abbrev pub decreases-type_of : goal.decreases-type_of
decreases-type_of l = 3 * l.depth

abbrev pub decreases-array_of : goal.decreases-array_of
decreases-array_of l = 3 * l.depth + 2

abbrev pub decreases-structure_of : goal.decreases-structure_of
decreases-structure_of l = 3 * l.depth + 2

abbrev pub decreases-members_of : goal.decreases-members_of
decreases-members_of l = 3 * l.depth + 1

abbrev pub invariant-members_of-members : goal.invariant-members_of-members
invariant-members_of-members l =
    (with_front (l.members) (until 125 (type_at l.depth) l.rest) ≡ until 125 (type_at l.depth)
    l.bytes) × IsBytes l.rest

abbrev pub decreases-members_of-members : goal.decreases-members_of-members
decreases-members_of-members l = length l.rest
