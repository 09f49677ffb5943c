-- The out values of an answer, one after another.
use Rattle.std.specs.Prelude.{List, None, Option, [], drop, option_map, slice_get, ℕ, ◌∷◌}
use Rattle.do_base.specs.declared.values.value.Value.{Value}
use Rattle.do_behave.specs.declared.invocation.{Invocation.Invocation, InvState.TheVariants.Running}
use Rattle.do_machine.specs.run.Changes.{with_outs}

-- an invocation with the values that come out from a place on
abbrev pub uses_outs : ℕ → List Value → Invocation → Invocation
uses_outs at values i =
    record i { locals = with_outs (drop at i.outs) values i.locals; state = Running }

-- the local that an out value goes to, and the place at which the top invocation goes on
abbrev pub out_at : ℕ → List Invocation → Option (ℕ × ℕ)
out_at at [] = None
out_at at (top ∷ below) = option_map (λ into. (into, top.pc)) (slice_get top.outs at)
