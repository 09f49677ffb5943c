-- What an act comes to where the invocation and its object stand.
use Rattle.std.specs.Prelude.{List, [], ◌∷◌, Option, Some, None, slice_set}
use Rattle.do_base.specs.declared.values.value.Value.{Value}
use Rattle.do_behave.specs.declared.act.{Act.{Act, TheVariants.Step}, Write.Write}
use Rattle.do_behave.specs.declared.invocation.Invocation.{Invocation}

-- slots after these writes, in order
abbrev pub written : List Value → List Write → List Value
written slots [] = slots
written slots (w ∷ ws) = written (slice_set slots w.slot w.value) ws

-- an invocation, the slots of its object, and the act that is left to do for it
pub record AfterAct : Type 0 where
  pub inv : Invocation
  pub slots : List Value
  pub left : Option Act

-- a step is done at once, any other act is left to be done
abbrev pub after_act : Act → Invocation → List Value → AfterAct
after_act (Step pc locals handler writes) inv slots = record {
  inv = record inv { pc = pc; locals = locals; handler = handler };
  slots = written slots writes;
  left = None;
}
after_act act inv slots = record { inv = inv; slots = slots; left = Some act }
