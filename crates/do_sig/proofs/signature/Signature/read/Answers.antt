use Rattle.do_sig.proofs.signature.Signature.read.Goals as goal
use Rattle.std.proofs.Common.{arith}
use Rattle.do_grammar.proofs.faults.AnswerExact.{bytes_from_each}
use Rattle.do_sig.specs.{Signatures.IsSignature, reading.Signatures.{signature_of, signature_at}}
use Rattle.do_sig.proofs.{SignatureExact.Reads-signature, SignaturePrinted.signature_limited}
use Rattle.do_sig.proofs.AnswerMeans.{within, fault_means, fault_only, value_only, fault_blames}
use Rattle.do_sig.proofs.FaultBytes.{signature_blames}

pub fault-requires : goal.fault-requires
fault-requires c =
    within IsSignature signature_at Reads-signature c.args.bytes.now
    (bytes_from_each c.args.bytes.now (λ i. omega (arith, c.type_inv.bytes i)))
    c.in-Err.stop c.in-Err.ensures

pub invariant_of-result : goal.invariant_of-result
invariant_of-result c =
    signature_limited c.args.bytes.now (signature_of c.in-Ok.returned c.in-Ok.args)
    (Reads-signature.sound c.args.bytes.now (signature_of c.in-Ok.returned c.in-Ok.args)
    (bytes_from_each c.args.bytes.now (λ i. omega (arith, c.type_inv.bytes i)))
    c.in-Ok.ensures)

pub returns-in-Ok-clause-exact : goal.returns-in-Ok-clause-exact
returns-in-Ok-clause-exact c =
    Reads-signature.sound c.args.bytes.now (signature_of c.in-Ok.returned c.in-Ok.args)
    (bytes_from_each c.args.bytes.now (λ i. omega (arith, c.type_inv.bytes i))) c.in-Ok.ensures

pub returns-in-Ok-clause-only : goal.returns-in-Ok-clause-only
returns-in-Ok-clause-only c =
    value_only IsSignature signature_at Reads-signature c.args.bytes.now
    (bytes_from_each c.args.bytes.now (λ i. omega (arith, c.type_inv.bytes i)))
    (signature_of c.in-Ok.returned c.in-Ok.args) c.in-Ok.ensures

pub returns-in-Err-clause-exact : goal.returns-in-Err-clause-exact
returns-in-Err-clause-exact c =
    rw c.fault.ensures (fault_means IsSignature signature_at Reads-signature c.args.bytes.now
    (bytes_from_each c.args.bytes.now (λ i. omega (arith, c.type_inv.bytes i)))
    c.in-Err.stop c.in-Err.ensures)

pub returns-in-Err-clause-only : goal.returns-in-Err-clause-only
returns-in-Err-clause-only c =
    rw c.fault.ensures (fault_only IsSignature signature_at Reads-signature c.args.bytes.now
    (bytes_from_each c.args.bytes.now (λ i. omega (arith, c.type_inv.bytes i)))
    c.in-Err.stop c.in-Err.ensures)

pub returns-in-Err-clause-blame : goal.returns-in-Err-clause-blame
returns-in-Err-clause-blame c =
    rw c.fault.ensures (fault_blames signature_at signature_blames c.args.bytes.now
    (bytes_from_each c.args.bytes.now (λ i. omega (arith, c.type_inv.bytes i)))
    c.in-Err.stop c.in-Err.ensures)
