-- What the effects of each cause are judged by.
use Rattle.do_facts.specs.nodes.Cause as cause
use Rattle.std.specs.Prelude.{Bool, List, None, [], false, ℕ}
use Rattle.do_base.specs.declared.events.exception.Exc.TheVariants.{TimedOut}
use Rattle.do_behave.specs.declared.act.Act.TheVariants.{Raise}
use Rattle.do_class.specs.Class.{Class}
use Rattle.do_machine.specs.{declared.node.Node.Node, Context.Context, run.Run.Acting}
use Rattle.do_facts.specs.nodes.{Cause.Cause, Judged.Judge}

-- a behaviour for rules that ask for none
abbrev pub unasked : Acting
unasked = λ table i slots. Raise TimedOut

-- the judge of an effect of a node that is seen so
abbrev pub judge_of : Acting → Context → Cause → Judge
judge_of act c why = record {
  table = c.table;
  act = act;
  sees = c.around;
  first = c.node;
  cause = why;
}

-- the judge of an effect that sees nothing beside its node
abbrev pub judge_alone : List Class → Node → Cause → Judge
judge_alone table n why = record {
  table = table;
  act = unasked;
  sees = record { class_of = λ o. None; entry = λ peer serial. false };
  first = n;
  cause = why;
}

-- the judge of what follows a step
abbrev pub judge_leaving : (ℕ → ℕ → Bool) → Bool → Node → Judge
judge_leaving entry freed n = record {
  table = [];
  act = unasked;
  sees = record { class_of = λ o. None; entry = entry };
  first = n;
  cause = cause.Leave freed;
}
