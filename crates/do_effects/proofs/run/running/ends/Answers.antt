use Rattle.do_effects.proofs.run.running.ends.Goals as goal
use Rattle.do_effects.proofs.Did.{ended_is}

-- what is popped is the top invocation
pub returns-clause-own : goal.returns-clause-own
returns-clause-own c =
    ended_is c.args.part.now.own c.pop-top.new.self.own c.pop-top.result c.pop-top.ensures.own
