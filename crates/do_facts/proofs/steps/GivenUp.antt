-- A time-out of a node whose top invocation waits gives its call up, and no other is enabled.
use Rattle.std.proofs.Common.{◌≡◌, ℕ, true, List, [], ◌∷◌, refl, ap, ◌∙◌, subst}
use Rattle.std.specs.Prelude.{IfSome, None, Option, Some, option_and_then, unwrap_or}
use Rattle.do_base.specs.declared.events.event.Event.TheVariants.{Timeout}
use Rattle.do_base.specs.{declared.events.exception.Exc.TheVariants.TimedOut, names.Names.CallName}
use Rattle.do_behave.specs.declared.invocation.{Answer.TheVariants.Raised, Invocation.Invocation}
use Rattle.do_behave.specs.declared.invocation.InvState.{InvState, TheVariants.Waits}
use Rattle.do_behave.specs.declared.invocation.Waited.{Waited}
use Rattle.do_class.specs.Class.{Class}
use Rattle.do_machine.specs.declared.{node.Node.Node, state.{Effect.Effect, State.State}}
use Rattle.do_machine.specs.{Commit.{commit, moved, skipped}, Context.around, Effect.only}
use Rattle.do_machine.specs.{State.node, Step.{moved_by, step}, ends.TimeOut.{give_up, time_out}}
use Rattle.do_machine.specs.{ends.TimeOut.{time_out_on, with_late}, held.Leaving.leaving}
use Rattle.do_facts.specs.laws.Calls.{IsGivenUp}
use Rattle.do_machine.specs.run.{Changes.answered, Fresh.with_stack, Run.Acting}
use Rattle.do_facts.proofs.machine.Answering.{given_up}
use Rattle.do_facts.specs.steps.GivenUp.{CanGiveUp, HasGivenUp, WaitsOnTop}
use Rattle.do_facts.proofs.steps.{OthersStay.move_leaves_own, RuleMoves.rule_moves}

module _ (table : List Class) (act : Acting) (S : State) (port : ℕ) where
  module _ (n : Node) (i : Invocation) (below : List Invocation) (call : CallName) (peer : ℕ)
      (what : Waited) (here : node S port ≡ Some n)
      (waits : WaitsOnTop n i below call peer what) where
    -- what the time-out does
    abbrev effect : Effect
    effect = only (with_late
        (record { number = call.number; peer = peer; what = what })
        (with_stack (answered (Raised TimedOut) i ∷ below) n))

    -- that is what it does
    is_effect : time_out n ≡ Some effect
    is_effect =
        ap (λ s. time_out_on s n) waits.stack ∙ ap (λ s. give_up s i below n) waits.waits

    -- the step is a move by it
    is_move : step table act S (Timeout port) ≡ moved port S effect
    is_move = rule_moves table act S (Timeout port) port n effect refl here is_effect

    -- the call is given up by it
    gives_up : IsGivenUp i below call peer what effect
    gives_up =
        subst (λ e. IfSome e (IsGivenUp i below call peer what)) is_effect
        (given_up n i below call peer what waits.stack waits.waits)

    -- the call is given up, and what follows the effect changes neither stack nor late calls
    pub waiting_gives_up : ((step table act S (Timeout port)).outcome.enabled ≡ true)
        × HasGivenUp (step table act S (Timeout port)).state port i below call peer what
    waiting_gives_up =
        let m = (leaving (around (commit port effect S) effect.node).entry effect.node).node in (
          ap (λ s. s.outcome.enabled) is_move,
          record {
            after = m;
            here = ap (λ s. node s.state port) is_move ∙ move_leaves_own port n effect S here;
            stack = gives_up.stack;
            late = gives_up.late;
          },
        )

  -- a time-out that is enabled, by the state of the top invocation
  by_state : (n : Node) → node S port ≡ Some n → (i : Invocation) (below : List Invocation) →
      n.stack ≡ i ∷ below → (state : InvState) → i.state ≡ state →
      (unwrap_or (moved_by port S (give_up state i below n)) (skipped S)).outcome.enabled ≡ true →
      CanGiveUp S port
  by_state n here i below e (Waits call peer what) q on =
      (n, i, below, call, peer, what, here, record { stack = e; waits = q })
  by_state n here i below e _ q on = absurd (cc)

  -- by the stack
  by_stack : (n : Node) → node S port ≡ Some n → (stack : List Invocation) → n.stack ≡ stack →
      (unwrap_or (moved_by port S (time_out_on stack n)) (skipped S)).outcome.enabled ≡ true →
      CanGiveUp S port
  by_stack n here [] e on = absurd (cc)
  by_stack n here (i ∷ below) e on = by_state n here i below e i.state refl on

  -- by the node
  by_found : (found : Option Node) → node S port ≡ found →
      (unwrap_or (moved_by port S (option_and_then time_out found)) (skipped S)).outcome.enabled
      ≡ true → CanGiveUp S port
  by_found None here on = absurd (cc)
  by_found (Some n) here on = by_stack n here n.stack refl on

  -- a time-out that is enabled
  pub enabled_waits : (step table act S (Timeout port)).outcome.enabled ≡ true →
      CanGiveUp S port
  enabled_waits on = by_found (node S port) refl on
