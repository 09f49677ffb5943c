use Rattle.do_sig.proofs.signature.Signature.simple.Goals as goal
use Rattle.do_sig.proofs.SignaturePrinted.{simple_limited}

pub invariant_of-result : goal.invariant_of-result
invariant_of-result c =
    simple_limited c.args.returned c.simple_returned-returned.result c.args.args.now
    c.in_ok-args.args
    c.requires c.simple_returned-returned.ensures c.in_ok-args.ensures
