use Rattle.do_coder.proofs.read.part.+parts.Goals as goal
use Rattle.do_grammar.{specs.Reader.times, proofs.loops.TimesLoop.value_turn}
use Rattle.do_coder.specs.Parts.{part_at}

pub parts_of-loop-preserved : goal.parts_of-loop-preserved
parts_of-loop-preserved t c =
    let r = part_at c.args.copies c.args.names c.args.depth in
    let total = times r c.args.count c.args.bytes.now in
    rw c.in_ok-push-in-Ok.ensures.ok
    (value_turn r c.loop.parts c.args.count c.loop.counter c.loop.rest.now c.in-Ok.part
    c.in-Ok.after.now total c.loop-test.true c.in-Ok.ensures c.loop.invariant)
