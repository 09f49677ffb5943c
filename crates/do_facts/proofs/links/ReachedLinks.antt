-- Each lend and each ask is in one place in every state that a machine comes to.
use Rattle.std.proofs.Common.{◌==◌, ◌≡◌, ℕ, Bool, true, false, cond, List, sym, ap, ◌∙◌, subst}
use Rattle.std.specs.Prelude.{Some}
use Rattle.do_base.specs.declared.events.event.Event.{Event}
use Rattle.do_class.specs.Class.{Class}
use Rattle.do_machine.specs.declared.{node.{Lend.Lend, Node.Node}, state.{Seat.Seat, State.State}}
use Rattle.do_machine.specs.{Lists.IsIn, State.node, Step.step, World.opening, run.Run.Acting}
use Rattle.do_facts.proofs.machine.passing.Linked.{opening_queues, queues_stay}
use Rattle.do_facts.specs.{Net.Net, ByEvents.IsBy, Moves.{Happening, Happens, Keeps, Lost, Moved}}
use Rattle.do_facts.specs.{Moves.{Reaches, net_then}, Reached.reached, View.{net_of, part_seen}}
use Rattle.do_facts.specs.links.Facts.{EachSilent, LinksHold, ReportsAreKnown}
use Rattle.do_facts.specs.links.{LinksAreKept.LinksAreKept, Lasting.Lasts, Links.{Atom, Links}}
use Rattle.do_facts.specs.links.{Links.{links, links_of}, Moves.{Move, link_rules, opens}}
use Rattle.do_facts.{specs.links.Sound.IsSound, proofs.{NodeRuns.{NodeRuns, by_node}, Paths.stays}}
use Rattle.do_facts.proofs.{StepReaches.by_step, links.{Bridge.link_bridge, LendsLast.lasts}}
use Rattle.do_facts.proofs.links.{LinksKept.links_keep, OpeningLinks.{opening_hold, opening_silent}}
use Rattle.do_facts.proofs.{links.OpeningLinks.opening_sound, ReachedStates.holds_of_reached}
use Rattle.do_facts.proofs.links.{ReportsKnown.reports_known, NoEndTold.silent_keeps}
use Rattle.do_facts.proofs.{links.PartsAreSound.sound_moved, steps.NodeSteps.node_step}

-- each part of a net is sound
abbrev pub AllSound : Net Links Atom → Type 0
AllSound net = (port : ℕ) → IsSound (net.part port)

-- and stays so, whatever happens
pub sound_keeps : Keeps link_rules AllSound
sound_keeps = record { by = by_happening }
  where
    by_happening : (net : Net Links Atom) (h : Happening Atom Move) → AllSound net →
        Happens link_rules net h → AllSound (net_then link_rules net h)
    by_happening net (Moved port v) sound m = λ other. go other (other == port)
      where
        go : (other : ℕ) (b : Bool) → IsSound
            (cond b (link_rules.after (net.part port) v) (net.part other))
        go other true = sound_moved (net.part port) (sound port) v m.0
        go other false = sound other
    by_happening net (Lost from to first rest) sound m = sound

-- all of it holds as a machine opens
pub opening_keeps : (table : List Class) (seats : List Seat) → LinksAreKept (opening table seats)
opening_keeps table seats = record {
  queues = opening_queues table seats;
  sound = opening_sound table seats;
  hold = opening_hold table seats;
  silent = opening_silent table seats;
}

module _ (table : List Class) (act : Acting) where
  -- every step is moves of links
  pub step_moves : (S : State) (event : Event) → LinksAreKept S →
      Reaches link_rules (IsBy event) (net_of links S) (net_of links (step table act S event).state)
  step_moves S event kept =
      by_step links link_rules IsSound link_bridge S kept.queues
      (record {
        ends = λ port n h.
            ap (λ found. opens (part_seen links found) port) (sym h) ∙ kept.hold.apart port;
      })
      (λ port n h. subst (λ found. IsSound (part_seen links found)) h
      (kept.sound port)) table act event

  -- a lend lasts until its notice is taken, or the end towards the borrower is closed
  pub lends_last : (S : State) (event : Event) (port : ℕ) (n m : Node) (l : Lend) →
      LinksAreKept S → node S port ≡ Some n → node (step table act S event).state port ≡ Some m →
      IsIn n.lent l → Lasts S event port n m l
  lends_last S event port n m l kept here there lent =
      let now = node (step table act S event).state port in
      lasts S event port n m l
      (subst (λ q. NodeRuns links link_rules S event port (links_of n) q)
      (ap (part_seen links) there)
      (subst (λ p. NodeRuns links link_rules S event port p (part_seen links now))
      (ap (part_seen links) here)
      (by_node links link_rules IsSound link_bridge table act S
      (λ p k h. subst (λ found. IsSound (part_seen links found)) h (kept.sound p)) event port now
      (node_step table act S event port))))
      lent

  -- every step keeps all that holds
  pub step_keeps : (S : State) (event : Event) → LinksAreKept S →
      LinksAreKept (step table act S event).state
  step_keeps S event kept =
      let T = (step table act S event).state in
      let path = step_moves S event kept in
      let before = net_of links S in
      record {
        queues = queues_stay table act S event kept.queues;
        sound = stays link_rules AllSound sound_keeps (IsBy event) before (net_of links T) path
            kept.sound;
        hold = stays link_rules LinksHold links_keep (IsBy event) before (net_of links T) path
            kept.hold;
        silent = stays link_rules EachSilent silent_keeps (IsBy event) before (net_of links T) path
            kept.silent;
      }

  -- all of it holds in every state that a machine comes to
  pub reached_keeps : (seats : List Seat) (events : List Event) →
      LinksAreKept (reached table act seats events)
  reached_keeps seats events =
      holds_of_reached table act LinksAreKept step_keeps seats events (opening_keeps table seats)

  -- and so what comes over an open end is known
  pub reached_known : (seats : List Seat) (events : List Event) →
      ReportsAreKnown (net_of links (reached table act seats events))
  reached_known seats events =
      reports_known (net_of links (reached table act seats events))
      (reached_keeps seats events).hold
