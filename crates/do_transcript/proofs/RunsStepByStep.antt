-- One run of a node more.
use Rattle.do_base.specs.declared.events.event.Event.TheVariants as events
use Rattle.std.proofs.Common.{◌≡◌, ℕ, zero, suc, ◌+◌, ◌||◌, ◌++◌, List, ap, refl, ◌∙◌, sym, arith}
use Rattle.std.specs.Prelude.{replicate}
use Rattle.do_base.specs.declared.events.event.Event.{Event}
use Rattle.do_class.specs.Class.{Class}
use Rattle.do_trace.specs.declared.outcome.Outcome.{Outcome}
use Rattle.do_machine.specs.{Step.step, check.Blocks.{followed, steps}, declared.state.State.State}
use Rattle.do_machine.specs.{declared.state.Stepped.Stepped, run.Run.Acting}

-- a state with what led to it
abbrev pub stepped_to : State → Outcome → Stepped
stepped_to S outcome = record { state = S; outcome = outcome }

-- one run of a node, behind what was done before
abbrev and_a_run : List Class → Acting → ℕ → Stepped → Stepped
and_a_run table act port s = followed s (step table act s.state (events.Run port))

-- so many runs of a node, behind what was done before
abbrev pub runs : List Class → Acting → ℕ → ℕ → Stepped → Stepped
runs table act port count s = steps table act (replicate count (events.Run port)) s

-- one run more stands behind the others
one_more : (table : List Class) (act : Acting) (port count : ℕ) (s : Stepped)
    → runs table act port (suc count) s ≡ and_a_run table act port (runs table act port count s)
one_more table act port zero s = refl
one_more table act port (suc count) s = one_more table act port count (and_a_run table act port s)

-- where so many runs led to a state, one run of that state leads to what one run more leads to
pub run_more : (table t : List Class) (act a : Acting) (port done : ℕ) (first : Stepped)
    (event : Event) (S T : State) (all came joined : Outcome)
    → t ≡ table → a ≡ act → event ≡ events.Run port
    → T ≡ (step t a S event).state → came ≡ (step t a S event).outcome
    → joined ≡ record { enabled = all.enabled || came.enabled; shown = all.shown ++ came.shown }
    → stepped_to S all ≡ runs table act port done first
    → stepped_to T joined ≡ runs table act port (done + 1) first
run_more table t act a port done first event S T all came joined same_table same_act is_run moved
    came_is joined_is so_far =
    let next : done + 1 ≡ suc done = omega arith in
    let both = λ (s : Stepped). followed (stepped_to S all) s in
    let here : stepped_to T joined ≡ both (step t a S event) =
    rw (moved, joined_is, came_is) refl in
    let ran : stepped_to T joined ≡ and_a_run table act port (stepped_to S all) =
    here ∙ ap (λ e. both (step t a S e)) is_run
    ∙ ap (λ w. both (step w a S (events.Run port))) same_table
    ∙ ap (λ w. both (step table w S (events.Run port))) same_act in
    rw next (ran ∙ ap (and_a_run table act port) so_far ∙ sym (one_more table act port done first))
