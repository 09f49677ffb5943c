use Rattle.do_sig.proofs.outermost.marks.qualifiers_of.Given as goal
use Rattle.std.proofs.Common.{◌≡◌, length}
use Rattle.do_grammar.specs.Reader.{scan_to}
use Rattle.do_sig.specs.{Bare.bare, Marks.qualifier_step}

abbrev pub invariant-loop-b : goal.invariant-loop-b
invariant-loop-b l =
    scan_to (qualifier_step l.place) l.qualifiers l.rest ≡ scan_to (qualifier_step l.place) bare
    l.bytes

abbrev pub decreases-loop-b : goal.decreases-loop-b
decreases-loop-b l = length l.rest
