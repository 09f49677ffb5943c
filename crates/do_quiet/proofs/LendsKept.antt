-- In every state with all ends open that a machine comes to, what is lent is held or asked for.
use Rattle.std.proofs.Common.{◌≡◌, ◌||◌, ℕ, Bool, true, List, [], ◌∷◌, sym, ap, ◌∙◌, arith}
use Rattle.std.{specs.{Prelude.Some, List.list_any}, proofs.lemmas.Bool.Decides.nat_tests}
use Rattle.do_base.specs.{declared.events.event.Event.Event, names.Names.ObjectName}
use Rattle.do_class.specs.Class.{Class}
use Rattle.do_packet.specs.Met.{has_object, same_object}
use Rattle.do_machine.specs.{Objects.object_at, State.{is_known, node}, Step.step, World.opening}
use Rattle.do_machine.specs.declared.{node.{Node.Node, Wanted.Wanted}, state.Seat.Seat}
use Rattle.do_machine.specs.{declared.state.State.State, lend.Asking.{same_wanted, wanted}}
use Rattle.do_machine.{specs.run.Run.Acting, proofs.Bools.{or_left, or_right}}
use Rattle.do_facts.specs.{Reached.reached, View.{net_of, part_seen}}
use Rattle.do_facts.specs.links.{Links.{Links, links, links_of}, Moves.is_in_use}
use Rattle.do_facts.proofs.{OpeningAsNet.opening_wires, ReachedStates.holds_of_reached}
use Rattle.do_facts.proofs.links.{EntriesStored.opening_entries, SameIsEqual.object_itself}
use Rattle.do_facts.proofs.links.StepsByActs.{step_fact}
use Rattle.do_facts.proofs.steps.NodesAtHome.{AllAtHome, opening_home, step_home}
use Rattle.do_quiet.specs.Quiet.{AllEndsOpen, LentAreKept}
use Rattle.do_quiet.proofs.Backing.{Backed, Borrows, Holds, StandsBacked, all_in}
use Rattle.do_quiet.proofs.QuietStates.{blank, ends, first_stands, is_there as is_node, reach}
use Rattle.do_quiet.proofs.ReachedWithin.{Stands, step_stands}
use Rattle.do_quiet.proofs.BackedStates.{backed_keeps, frees_backed}

module _ (table : List Class) (seats : List Seat) where
  -- the ends that open
  abbrev pub first_ends : ℕ → ℕ → Bool
  first_ends = ends table seats

  -- what holds from the opening on
  pub record StandsLent (S : State) : Type 0 where
    pub stands : Stands first_ends (is_node table seats) S
    pub home : AllAtHome S
    pub backed : StandsBacked first_ends (net_of links S)

  -- a machine opens so
  pub opening_lent : StandsLent (opening table seats)
  opening_lent =
      let net = net_of links (opening table seats) in
      let stands = first_stands table seats in
      record {
        stands = stands;
        home = opening_home table seats;
        backed = record {
          entries = (opening_entries table seats).entries;
          sound = stands.kept.sound;
          within = stands.within;
          backed = λ r. (
            λ a b. grind (arith, nat_tests, opening_wires table seats links a b),
            λ n h s u.
                let none = blank table seats n in
                absurd (grind (arith, nat_tests, u, none.0, none.1)),
          );
        };
      }

  -- a step
  pub step_lent : (act : Acting) (S : State) (event : Event) → StandsLent S →
      StandsLent (step table act S event).state
  step_lent act S event h = record {
    stands = step_stands first_ends (is_node table seats) table act S event h.stands;
    home = step_home table act S event h.home;
    backed = step_fact (StandsBacked first_ends) (backed_keeps first_ends)
        (frees_backed first_ends) S h.stands.kept h.home h.backed table act event;
  }

  -- an object that is asked for under a token is asked for
  asked_some : (h s l t : ℕ) (ws : List Wanted) →
      list_any (same_wanted (wanted (object_at h s) l t)) ws ≡ true →
      list_any (λ w. same_object (object_at h s) w.object) ws ≡ true
  asked_some h s l t [] e = e
  asked_some h s l t (w ∷ ws) e = grind (arith, nat_tests, e, asked_some h s l t ws)

  -- what is backed is held or asked for
  backed_known : (S : State) (port h s : ℕ) (n : Node) → node S port ≡ Some n →
      Backed (net_of links S) h s port → is_known n (object_at h s) ≡ true
  backed_known S port h s n here b = go port b (ap (part_seen links) here)
    where
      known : (p : Links) → (has_object p.held (object_at h s)
          || list_any (λ w. same_object (object_at h s) w.object) p.asked) ≡ true →
          p ≡ links_of n → is_known n (object_at h s) ≡ true
      known p e q =
          ap (λ (r : Links). has_object r.held (object_at h s)
          || list_any (λ w. same_object (object_at h s) w.object) r.asked) (sym q) ∙ e

      go : (y : ℕ) → Backed (net_of links S) h s y → (net_of links S).part y ≡ links_of n →
          is_known n (object_at h s) ≡ true
      go y (Holds e) q =
          known ((net_of links S).part y)
          (or_left (has_object ((net_of links S).part y).held (object_at h s))
          (list_any (λ w. same_object (object_at h s) w.object)
          ((net_of links S).part y).asked) e) q
      go y (Borrows l t e b) q =
          known ((net_of links S).part y)
          (or_right (has_object ((net_of links S).part y).held (object_at h s))
          (list_any (λ w. same_object (object_at h s) w.object) ((net_of links S).part y).asked)
          (asked_some h s l t ((net_of links S).part y).asked e)) q

  -- where all ends are open, what is lent is held or asked for
  lent_known : (S : State) → StandsLent S → AllEndsOpen S → LentAreKept S
  lent_known S h open_all = record {
    each = λ port n here.
        all_in (λ l k. same_object l.object k.object) (λ l. object_itself l.object)
        (λ l. is_known n l.object ≡ true) n.lent
        (λ l e.
        let o = l.object in
        backed_known S port o.node o.serial n here
        ((h.backed.backed (reach table seats S h.stands open_all)).1 port o.node o.serial
        (used port n here o e)));
  }
    where
      used : (port : ℕ) (n : Node) → node S port ≡ Some n → (o : ObjectName) →
          list_any (λ l. same_object o l.object) n.lent ≡ true →
          is_in_use ((net_of links S).part port) o ≡ true
      used port n here o e =
          ap (λ found. is_in_use (part_seen links found) o) here
          ∙ or_left (list_any (λ l. same_object o l.object) n.lent)
          (list_any (λ w. same_object o w.object) n.asked) e

  -- so stands every state that a machine comes to
  pub reached_stands : (act : Acting) (events : List Event) →
      StandsLent (reached table act seats events)
  reached_stands act events =
      holds_of_reached table act StandsLent (step_lent act) seats events opening_lent

  -- what is lent there is kept, as long as all ends are open
  pub reached_lent : (act : Acting) (events : List Event) →
      AllEndsOpen (reached table act seats events) →
      LentAreKept (reached table act seats events)
  reached_lent act events open_all =
      lent_known (reached table act seats events) (reached_stands act events) open_all
