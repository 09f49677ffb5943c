-- What was stepped so far is what `_step` runs come to.
use Rattle.do_base.specs.declared.events.event.Event.TheVariants as events
use Rattle.do_transcript.proofs.stepping.run_steps.Given as goal
use Rattle.std.proofs.Common.{◌≡◌}
use Rattle.do_machine.specs.Commit.{skipped}
use Rattle.do_transcript.proofs.RunsStepByStep.{runs, stepped_to}

abbrev pub invariant-loop-step : goal.invariant-loop-step
invariant-loop-step g l = record {
  one : l.event ≡ events.Run l.fn.node;
  so_far : stepped_to l.local.state l.all ≡ runs l.fn.local.table
      (g.B.Behaviour.act l.fn.local.behaviour) l.fn.node l._step (skipped l.fn.local.state);
  same : l.local ≡ record l.fn.local { state = l.local.state };
}
