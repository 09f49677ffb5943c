use Rattle.do_coder.proofs.read.packet.many_copies.Goals as goal
use Rattle.do_grammar.{specs.Reader.times, proofs.loops.TimesLoop.value_turn}
use Rattle.do_coder.specs.Packets.{slot_counts, copy_at}

pub loop-preserved : goal.loop-preserved
loop-preserved c =
    let r = copy_at (slot_counts c.args.table.now) c.args.count c.args.names in
    let total = times r c.args.count c.args.bytes.now in
    rw c.in_ok-push-in-Ok.ensures.ok
    (value_turn r c.loop.copies c.args.count c.loop.counter c.loop.rest.now c.in-Ok.copied
    c.in-Ok.after.now total c.loop-test.true c.in-Ok.ensures c.loop.invariant)
