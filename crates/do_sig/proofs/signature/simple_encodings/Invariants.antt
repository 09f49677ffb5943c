use Rattle.do_sig.proofs.signature.simple_encodings.Given as goal
use Rattle.std.proofs.Common.{◌≡◌, map, take}
use Rattle.do_sig.specs.Bare.{simple_encoding}

abbrev pub invariant-loop-scalar : goal.invariant-loop-scalar
invariant-loop-scalar l = l.encodings ≡ map simple_encoding (take l.scalar-index l.scalars)
