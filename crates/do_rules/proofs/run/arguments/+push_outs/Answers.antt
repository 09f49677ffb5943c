use Rattle.do_rules.proofs.run.arguments.+push_outs.Goals as goal
use Rattle.std.proofs.Common.{◌≤◌, arith, drop, subst}
use Rattle.do_sig.specs.Calls.{is_oneway}
use Rattle.do_rules.proofs.Arguments.{on_ok, outs_at, outs_none, outs_past}

pub returns-then-k-args : goal.returns-then-k-args
returns-then-k-args g t c =
    outs_past c.args.signature.now c.args.k c.args.outs.now c.args.items.now
    (subst (λ n. n ≤ c.args.k) c.args-2.ensures.value c.if-k-args.true)

pub returns-in_default : goal.returns-in_default
returns-in_default g t c =
    outs_none (is_oneway c.args.signature.now) (drop c.args.k c.args.signature.now.args)
    c.args.outs.now c.args.items.now (omega (arith, c.in_default.len_below))

pub returns : goal.returns
returns g t c =
    on_ok c.push_outs.result (λ rest.
    outs_at c.args.signature.now c.args.k _ c.args.items.now _ c.args.outs.now _ _
    (omega (arith, c.in-len1-up.len_at_least)) c.item-item.is c.qualifier.ensures
    c.in_ok-push_if.ensures rest) c.push_outs.ensures
