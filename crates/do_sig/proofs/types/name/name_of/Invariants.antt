use Rattle.do_sig.proofs.types.name.name_of.Given as goal
use Rattle.std.proofs.Common.{◌≡◌, [], length}
use Rattle.do_grammar.specs.Reader.{scan_to}
use Rattle.do_sig.specs.reading.Types.{name_step}

abbrev pub invariant-loop-b : goal.invariant-loop-b
invariant-loop-b l = scan_to name_step l.name l.rest ≡ scan_to name_step [] l.bytes

abbrev pub decreases-loop-b : goal.decreases-loop-b
decreases-loop-b l = length l.rest
