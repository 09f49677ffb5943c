use Rattle.do_sig.proofs.signature.arguments.push_encodings.Given as goal
use Rattle.std.{proofs.Common.{◌≡◌, ◌++◌, take}, specs.List.flat_map}
use Rattle.do_sig.specs.Spelling.{encoding_spelling}

abbrev pub invariant-loop-encoding : goal.invariant-loop-encoding
invariant-loop-encoding l =
    l.out ≡ l.fn.out ++ flat_map encoding_spelling (take l.encoding-index l.encoding-items)
