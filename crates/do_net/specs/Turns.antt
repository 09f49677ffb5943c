-- What a site may do of its own.
use Rattle.std.specs.Prelude.{Bool, List, [], false, true, ◌∷◌}
use Rattle.do_behave.specs.declared.invocation.{Invocation.Invocation, InvState.InvState}
use Rattle.do_behave.specs.declared.invocation.InvState.TheVariants.{Answered, Running}

-- an invocation of this state runs or has an answer to use
abbrev pub can_act_in : InvState → Bool
can_act_in Running = true
can_act_in (Answered a) = true
can_act_in _ = false

-- the top invocation runs or has an answer to use
abbrev pub can_act : List Invocation → Bool
can_act [] = false
can_act (top ∷ below) = can_act_in top.state
