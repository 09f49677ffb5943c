-- The act that was done to an invocation, and steps with other writes of slots.
use Rattle.std.specs.Prelude.{List, None, Option, Some}
use Rattle.do_behave.specs.declared.act.{Act.{Act, TheVariants.Step}, Write.Write}
use Rattle.do_behave.specs.declared.invocation.Invocation.{Invocation}

-- an act, but that it writes these slots if it is a step
abbrev pub writing : List Write → Act → Act
writing ws (Step pc locals handler _) = Step pc locals handler ws
writing ws act = act

-- the act that was done to an invocation, by the one after it and what is left to do: where nothing
-- is left it was a step, which writes these slots
abbrev pub done_by : List Write → Invocation → Option Act → Act
done_by ws after None = Step after.pc after.locals after.handler ws
done_by ws after (Some act) = act
