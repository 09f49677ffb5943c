use Rattle.do_grammar.proofs.quoted.push_inside.Given as goal
use Rattle.std.{proofs.Common.{◌≡◌, ◌++◌, take}, specs.List.flat_map}
use Rattle.do_grammar.specs.Quoted.{quoted_byte}

abbrev pub invariant-loop-byte : goal.invariant-loop-byte
invariant-loop-byte l = l.out ≡ l.fn.out ++ flat_map quoted_byte (take l.byte-index l.text)
