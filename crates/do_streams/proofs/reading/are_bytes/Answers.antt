use Rattle.do_streams.proofs.reading.are_bytes.Goals as goal
use Rattle.std.proofs.Common.{arith}
use Rattle.do_grammar.proofs.faults.AnswerExact.{bytes_from_each}

-- each element of a slice of bytes is below 256
pub returns : goal.returns
returns c = bytes_from_each c.args.bytes.now (λ i. omega (arith, c.type_inv.bytes i))
