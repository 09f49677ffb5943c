use Rattle.do_sched.proofs.words.values_of.Goals as goal
use Rattle.std.proofs.Common.{sym, ap, ◌∙◌}
use Rattle.do_grammar.specs.Quoted.{front_view}
use Rattle.do_sched.{specs.Reading.values_at, proofs.ValuesLoop.value_turn}

pub loop-i-preserved : goal.loop-i-preserved
loop-i-preserved c =
    value_turn c.loop-i.values c.push.new.self c.args.limit c.args.count c.loop-i._i
    c.in-Some.first c.loop-i.rest.now c.in-Some.behind.now c.in-Some-2.after.now c.in-Some-2.value
    (values_at c.args.limit c.args.count c.args.bytes.now) c.loop-i-test.true c.in-Some.ensures
    c.if-first-ne32.false (sym (ap front_view c.in-Some-2.is) ∙ c.in_ok-value.ensures)
    c.in_ok-push.ensures.ok c.loop-i.invariant
