use Rattle.do_site.proofs.awaiting.+awaited_below.Goals as goal
use Rattle.std.proofs.Common.{arith, ◌∙◌}
use Rattle.do_rules.specs.Answering.{call_of}
use Rattle.do_site.proofs.AwaitedBelow.{rest_awaits, top_awaits}

pub returns-then-awaits : goal.returns-then-awaits
returns-then-awaits t c =
    c.asked_by.ensures
    ∙ top_awaits (call_of c.args.call.now) c.args.part.now.own.node.stack c.args.height
    (omega arith)
    c.requires c.in-Some.top.now (c.in-Some.ensures.within (omega arith)) (cc)

pub returns : goal.returns
returns t c =
    c.awaited_below.ensures
    ∙ rest_awaits (call_of c.args.call.now) c.args.part.now.own.node.stack c.args.height
    (omega arith) c.requires c.in-Some.top.now (c.in-Some.ensures.within (omega arith)) (cc)
