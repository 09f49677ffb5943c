use Rattle.do_sig.proofs.outermost.offset.digits_of.Given as goal
use Rattle.std.proofs.Common.{◌≡◌, length}
use Rattle.do_sig.specs.{Offsets.digits, reading.Offsets.skip}

abbrev pub invariant-digits : goal.invariant-digits
invariant-digits l = skip digits l.rest ≡ skip digits l.bytes

abbrev pub decreases-digits : goal.decreases-digits
decreases-digits l = length l.rest
