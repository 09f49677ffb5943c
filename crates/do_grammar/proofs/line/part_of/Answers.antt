use Rattle.do_grammar.proofs.line.part_of.Goals as goal
use Rattle.do_grammar.proofs.loops.WordLoop.{still_clear}

pub loop-n-preserved : goal.loop-n-preserved
loop-n-preserved c =
    still_clear c.args.end c.loop-n.n c.args.bytes.now c.if-bytes-n.false c.loop-n.invariant
