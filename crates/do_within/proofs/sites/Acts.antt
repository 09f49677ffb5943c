-- What a site sends when its node acts has a spelling.
use Rattle.std.{proofs.Common.{◌≡◌, ◌≤◌, ℕ, List, arith}, specs.Prelude.{Some, suc}}
use Rattle.do_base.specs.declared.events.event.Event.{Event}
use Rattle.do_class.specs.Class.{Class}
use Rattle.do_machine.specs.{declared.state.{Effect.Effect, State.State}, Commit.moved}
use Rattle.do_machine.specs.run.Run.{Acting}
use Rattle.do_facts.specs.{links.LinksAreKept.LinksAreKept, steps.IsStep.IsRuleOf}
use Rattle.do_export.specs.Counts.{Counts}
use Rattle.do_network.specs.{Net.{Net, Place, place_at}, Site.{Handled, moves}, Spelled.SentSpelled}
use Rattle.do_agreement.{specs.Agrees.Agrees, proofs.acts.StepTallies.{act_commits, act_sound}}
use Rattle.do_within.{specs.Received.CountsWithin, proofs.sent.Effects.{FewReceived, WaitsSpelled}}
use Rattle.do_within.proofs.{sites.Exports.{later_within, moved_within}, sent.Moves.move_spelled}

-- what a site does sends what has a spelling, and it has received few objects then
pub record DoesWithin (table : List Class) (events : ℕ) (h : Handled) : Type 0 where
  pub sent : SentSpelled table h
  pub received : CountsWithin (suc events) h.part.own.received

-- few objects were received over a bounded schedule
pub few_received : (events : ℕ) → events ≤ 70368744177664 → (received : Counts) →
    CountsWithin events received → FewReceived received
few_received events small received within home serial =
    omega (arith, small, within home serial)

module _ {table : List Class} {N : Net} {S : State} (agrees : Agrees table N S)
    (kept : LinksAreKept S) (events : ℕ) (small : events ≤ 70368744177664) (port : ℕ) {pl : Place}
    (there : place_at N port ≡ Some pl) (within : CountsWithin events pl.part.own.received) where
  -- a node acts
  pub act_does : (act : Acting) (event : Event) (e : Effect) →
      IsRuleOf table act S event pl.part.own.node e →
      WaitsSpelled table port (moved port S e).state → DoesWithin table events (moves pl.part e)
  act_does act event e rule spelled =
      let p = pl.part in
      record {
        sent = move_spelled (act_commits kept agrees.tallies port there act event e rule)
            (act_sound kept agrees.tallies port there act event e rule)
            (few_received events small p.own.received within) spelled;
        received = later_within (moves p e).part.own events (moved_within p.own e events within);
      }
