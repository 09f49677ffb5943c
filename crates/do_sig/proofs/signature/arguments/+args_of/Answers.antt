use Rattle.do_sig.proofs.signature.arguments.+args_of.Goals as goal
use Rattle.std.proofs.lemmas.Result.{err_from_is_err_and}
use Rattle.do_sig.proofs.ArgumentSteps.{args_fail, args_full}

pub returns-in_err-arg : goal.returns-in_err-arg
returns-in_err-arg t c =
    let p = err_from_is_err_and c.from_residual-in_err-arg.result
    c.from_residual-in_err-arg.ensures.1 in
    rw (p.1, p.2) (args_fail c.args.returned c.args.args c.args.bytes.now c.in_ok-rest.rest.now
    c.args.left c.in-Some.b c.in-Some._after.now c.in_err-arg.field-0.0 c.if-left-eq0.false
    c.in_ok-rest.ensures.gives c.in-Some.ensures c.in_err-arg.ensures.gives)

pub returns-then-left-eq0 : goal.returns-then-left-eq0
returns-then-left-eq0 t c =
    rw c.more_fault.ensures (args_full c.args.returned c.args.args c.args.bytes.now
    c.in_ok-rest.rest.now c.args.left c.in-Some.b c.in-Some._after.now c.if-left-eq0.true
    c.in_ok-rest.ensures.gives c.in-Some.ensures)
