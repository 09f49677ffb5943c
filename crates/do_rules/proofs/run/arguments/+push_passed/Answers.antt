use Rattle.do_rules.proofs.run.arguments.+push_passed.Goals as goal
use Rattle.std.proofs.Common.{◌≤◌, arith, drop, subst}
use Rattle.do_rules.proofs.Arguments.{on_ok, passed_at, passed_none, passed_past}

pub returns-then-k-args : goal.returns-then-k-args
returns-then-k-args t c =
    passed_past c.args.signature.now c.args.k c.args.inputs.now c.args.values.now
    (subst (λ n. n ≤ c.args.k) c.args-2.ensures.value c.if-k-args.true)

pub returns-in_default : goal.returns-in_default
returns-in_default t c =
    passed_none (drop c.args.k c.args.signature.now.args) c.args.inputs.now c.args.values.now
    (omega (arith, c.in_default.len_below))

pub returns : goal.returns
returns t c =
    on_ok c.push_passed.result (λ rest.
    passed_at c.args.signature.now c.args.k _ c.args.values.now _ _ c.args.inputs.now _ _
    (omega (arith, c.in-len1-up.len_at_least)) c.value-item.is c.qualifier.ensures
    c.in_ok-input.ensures c.in_ok-push.ensures.ok rest) c.push_passed.ensures
