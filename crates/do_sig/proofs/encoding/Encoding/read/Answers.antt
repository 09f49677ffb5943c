use Rattle.do_sig.proofs.encoding.Encoding.read.Goals as goal
use Rattle.std.proofs.Common.{arith}
use Rattle.do_grammar.proofs.faults.AnswerExact.{bytes_from_each}
use Rattle.do_sig.specs.{Encodings.IsEncoding, reading.Outermost.alone_at}
use Rattle.do_sig.proofs.{EncodingExact.Reads-alone, AnswerMeans.{within, fault_means, fault_only}}
use Rattle.do_sig.proofs.{AnswerMeans.{value_only, fault_blames}, FaultBytes.alone_blames}

pub fault-requires : goal.fault-requires
fault-requires c =
    within IsEncoding alone_at Reads-alone c.args.bytes.now
    (bytes_from_each c.args.bytes.now (λ i. omega (arith, c.type_inv.bytes i)))
    c.in-Err.stop c.in-Err.ensures.gives

pub returns-in-Ok-clause-exact : goal.returns-in-Ok-clause-exact
returns-in-Ok-clause-exact c =
    Reads-alone.sound c.args.bytes.now c.in-Ok.encoding
    (bytes_from_each c.args.bytes.now (λ i. omega (arith, c.type_inv.bytes i)))
    c.in-Ok.ensures.gives

pub returns-in-Ok-clause-only : goal.returns-in-Ok-clause-only
returns-in-Ok-clause-only c =
    value_only IsEncoding alone_at Reads-alone c.args.bytes.now
    (bytes_from_each c.args.bytes.now (λ i. omega (arith, c.type_inv.bytes i)))
    c.in-Ok.encoding c.in-Ok.ensures.gives

pub returns-in-Err-clause-exact : goal.returns-in-Err-clause-exact
returns-in-Err-clause-exact c =
    rw c.fault.ensures (fault_means IsEncoding alone_at Reads-alone c.args.bytes.now
    (bytes_from_each c.args.bytes.now (λ i. omega (arith, c.type_inv.bytes i)))
    c.in-Err.stop c.in-Err.ensures.gives)

pub returns-in-Err-clause-only : goal.returns-in-Err-clause-only
returns-in-Err-clause-only c =
    rw c.fault.ensures (fault_only IsEncoding alone_at Reads-alone c.args.bytes.now
    (bytes_from_each c.args.bytes.now (λ i. omega (arith, c.type_inv.bytes i)))
    c.in-Err.stop c.in-Err.ensures.gives)

pub returns-in-Err-clause-blame : goal.returns-in-Err-clause-blame
returns-in-Err-clause-blame c =
    rw c.fault.ensures (fault_blames alone_at alone_blames c.args.bytes.now
    (bytes_from_each c.args.bytes.now (λ i. omega (arith, c.type_inv.bytes i)))
    c.in-Err.stop c.in-Err.ensures.gives)
