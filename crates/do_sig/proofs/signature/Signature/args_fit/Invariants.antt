use Rattle.do_sig.proofs.signature.Signature.args_fit.Given as goal
use Rattle.std.proofs.Common.{◌≡◌, take, map, true}
use Rattle.do_sig.specs.{Fits.each_takes, Calls.encoding_fits}

abbrev pub invariant-loop-i : goal.invariant-loop-i
invariant-loop-i l = each_takes (map encoding_fits (take l.i l.args)) (take l.i l.values) ≡ true
