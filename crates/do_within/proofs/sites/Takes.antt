-- What a site sends when it takes an item has a spelling.
use Rattle.do_agreement.proofs.takes.Taking as takes
use Rattle.std.proofs.Common.{◌≡◌, ◌≤◌, ℕ, List, ◌∷◌, sym, ap, ◌∙◌, subst}
use Rattle.std.specs.Prelude.{Some, slice_get, suc, unwrap_or}
use Rattle.do_base.specs.declared.events.event.Event.TheVariants.{Take}
use Rattle.do_class.specs.Class.{Class}
use Rattle.do_machine.specs.declared.{item.Item.Item, state.{Effect.Effect, State.State}}
use Rattle.do_machine.specs.{Commit.moved, Context.{Context, context}, Step.step, run.Run.Acting}
use Rattle.do_machine.specs.take.Take.{take_effect}
use Rattle.do_coder.specs.declared.recent.pair.Pair.{Pair}
use Rattle.do_network.specs.{Frames.item_of, Links.Part, Net.{Carried, Net}, Own.counted_around}
use Rattle.do_network.specs.{Site.{Handled, enabled_input, moves, released_by}, Step.input_of}
use Rattle.do_network.specs.fits.Notes.{Note, note_frame}
use Rattle.do_limits.{specs.SendableStates.StateIsSendable, proofs.states.States.queue_sendable}
use Rattle.do_agreement.specs.{Agrees.Agrees, CountsFit.ChannelCarries, NetInHand.carried_as}
use Rattle.do_agreement.{specs.NetInHand.part_in_hand, proofs.takes.TakenFrame.input_done}
use Rattle.do_agreement.proofs.takes.{TakenFrame.stands_first, Taking.{Taking, node_there, waits}}
use Rattle.do_agreement.proofs.takes.{MachineTakes.take_moves, TakeEvents.{one_effect, site_is}}
use Rattle.do_agreement.proofs.takes.TakeTallies.{take_commits, take_sound}
use Rattle.do_within.specs.Received.{CountsWithin}
use Rattle.do_within.proofs.{sites.Acts.{DoesWithin, few_received}, sent.Effects.WaitsSpelled}
use Rattle.do_within.proofs.{sites.Exports.{hand_within, moved_within}, sent.Moves.move_spelled}

module _ {table : List Class} {act : Acting} {N : Net} {S : State} {agrees : Agrees table N S}
    {port from : ℕ} {x : Note} {xs : List Note}
    (taking : Taking table act N S agrees port from x xs) (ok : StateIsSendable table S)
    (events : ℕ) (small : suc events ≤ 70368744177664)
    (within : CountsWithin events taking.pl.part.own.received)
    (spelled : WaitsSpelled table port (step table act S (Take port from)).state) where
  -- the site
  abbrev p : Part
  p = taking.pl.part

  -- what is under way
  abbrev under_way : ℕ → ℕ → List Note
  under_way = agrees.tallies.under_way

  -- the channel between the node and the sender
  abbrev pub here_way :
      ChannelCarries table N from port taking.pf.part p (under_way from port)
  here_way = takes.way taking

  -- the names by which the item is spelled
  abbrev front : List Pair
  front = takes.names taking

  -- the items that are left
  abbrev rest : List Item
  rest = takes.rest taking

  -- the state without the item
  abbrev T : State
  T = takes.T taking

  -- ---- the machine

  -- the effect at the machine's node
  abbrev machine : Effect
  machine = take_effect (context table T p.own.node) from x.item

  -- the machine's node takes the item
  step_is : step table act S (Take port from) ≡ moved port T machine
  step_is =
      take_moves table S port from act p.own.node x.item rest (node_there taking) taking.can
      (waits taking)

  -- ---- the site

  -- the site with the item in hand
  abbrev hand : Part
  hand = part_in_hand from x p

  -- what the take is judged by
  abbrev judged : Context
  judged = record {
    table = table;
    around = counted_around (released_by from (note_frame x) p.own);
    node = p.own.node;
  }

  -- the effect of the item
  abbrev e : Effect
  e = take_effect judged from (item_of (note_frame x))

  -- it is the machine's
  alike : e ≡ machine
  alike = one_effect taking

  -- few objects are received with the item in hand
  hand_few : CountsWithin (suc events) hand.own.received
  hand_few =
      hand_within table from port from x p.own
      (queue_sendable table S ok from port (x.item ∷ rest) (waits taking)).0 events within

  -- all that the site sends for the item
  sent_spelled : DoesWithin table events (moves hand e)
  sent_spelled =
      record {
        sent = move_spelled (take_commits taking judged.around) (take_sound taking judged.around)
            (few_received (suc events) small hand.own.received hand_few)
            (subst (λ d. WaitsSpelled table port (moved port T d).state) (sym alike)
            (subst (λ s. WaitsSpelled table port s.state) step_is spelled));
        received = moved_within hand.own e (suc events) hand_few;
      }

  -- ---- the input

  -- what stands first in the channel
  first_is : (y : Carried) → slice_get here_way.between.waiting 0 ≡ Some y →
      carried_as front x ≡ y
  first_is y h =
      let is = stands_first taking in
      ap (λ o. unwrap_or o y) (sym (ap (λ w. slice_get w 0) is.1) ∙ h)

  -- what the site does for what stands first
  pub take_does : (y : Carried) → slice_get here_way.between.waiting 0 ≡ Some y →
      (h : Handled) → enabled_input table act p (input_of from y) ≡ Some h →
      DoesWithin table events h
  take_does y is h enabled =
      let same = ap (λ o. unwrap_or o h)
      (sym (input_done taking)
      ∙ ap (λ z. enabled_input table act p (input_of from z)) (first_is y is) ∙ enabled) in
      subst (DoesWithin table events) same
      (subst (λ d. DoesWithin table events (moves hand d)) (sym (site_is taking)) sent_spelled)
