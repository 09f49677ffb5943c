use Rattle.do_transcript.proofs.stepping.run_steps.Goals as goal
use Rattle.std.proofs.Common.{ap, rules}
use Rattle.do_transcript.proofs.RunsStepByStep.{run_more}

pub loop-step-preserved : goal.loop-step-preserved
loop-step-preserved g c =
    let same = c.loop-step.invariant.same in
    let ok = c.in_ok-outcome.ensures.ok in record {
      one = c.loop-step.invariant.one;
      so_far = run_more _ _ _ _ c.args.node c.loop-step._step _ _ _ c.step.new.self.state
          c.loop-step.all c.in_ok-outcome.outcome c.join.new.all (ap (λ m. m.table) same)
          (ap (λ m. g.B.Behaviour.act m.behaviour) same) c.loop-step.invariant.one
          (ap (λ m. m.state) ok) c.in_ok-outcome.ensures.outcome c.in_ok-join.ensures
          c.loop-step.invariant.so_far;
      same = search rules;
    }
