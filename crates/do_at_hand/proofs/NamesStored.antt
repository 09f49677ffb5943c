-- In every state with all ends open that a machine comes to, each object that a node names is at
-- hand there and stored at its home.
use Rattle.std.proofs.Common.{◌≡◌, ◌∙◌, ◌||◌, ℕ, Bool, true, false, cond, List, [], ◌∷◌, refl, sym}
use Rattle.std.proofs.Common.{ap, subst, arith, inl, inr}
use Rattle.std.specs.{Prelude.{Some, is_some}, List.{AllByRecursion, list_any}}
use Rattle.std.proofs.lemmas.{Bool.{eqb-true, Decides.nat_tests}, List.Elements.recursion_from_All}
use Rattle.do_base.specs.{names.Names.ObjectName, declared.events.event.Event.Event}
use Rattle.do_class.specs.Class.{Class}
use Rattle.do_packet.specs.Met.{has_object, same_object}
use Rattle.do_machine.specs.declared.{node.{Node.Node, Wanted.Wanted}, state.Seat.Seat}
use Rattle.do_machine.specs.{declared.state.State.State, Lists.some_passes}
use Rattle.do_machine.specs.State.{has_asked, holds, is_known, is_own, node, stored}
use Rattle.do_machine.{specs.{lend.Asking.same_wanted, run.Run.Acting}, proofs.Bools.or_cases}
use Rattle.do_facts.specs.{Made.is_stored, Reached.reached, View.{net_of, part_seen}}
use Rattle.do_facts.specs.links.{Links.links, Moves.has_wanted}
use Rattle.do_facts.proofs.links.{EntriesStored.stored_same, SameIsEqual.{object_is, wanted_itself}}
use Rattle.do_quiet.specs.Quiet.{AllEndsOpen}
use Rattle.do_quiet.proofs.{Backing.{all_in, asked_stored}, LendsKept.first_ends, QuietStates.reach}
use Rattle.do_at_hand.specs.AtHand.{AllAtHand, NamedAreStored, ShowsNames, StartsPlain, is_at_hand}
use Rattle.do_at_hand.proofs.{Within.passes_of, Reached.{StandsHand, reached_hand}}

module _ (table : List Class) (act : Acting) (seats : List Seat)
    (shows : ShowsNames table act) where
  module _ (events : List Event) (plain : AllByRecursion StartsPlain events)
      (open_all : AllEndsOpen (reached table act seats events)) where
    -- the state that is reached
    abbrev V : State
    V = reached table act seats events

    -- how it stands
    stands : StandsHand table act seats shows V
    stands = reached_hand table act seats shows events plain

    -- what is named is at hand
    pub reached_at_hand : AllAtHand V
    reached_at_hand = record {
      each = λ port n here. passes_of (is_at_hand n) n (stands.hand open_all port n here);
    }

    -- an object that is held is stored
    held_stored : (port : ℕ) (n : Node) → node V port ≡ Some n → (o : ObjectName) →
        holds n o ≡ true → is_stored V o ≡ true
    held_stored port n here o held =
        let f = stands.lent.backed in
        let there = ap (λ found. has_object (part_seen links found).held o) here ∙ held in
        let ends = (f.sound port).reached o there in
        let back = (reach table seats V stands.lent.stands open_all port o.node
        ((f.within port).reached o.node ends)).1 in
        stored_same o (node V o.node)
        ∙ (f.entries.entered o.node port o.serial).stored back
        (grind (arith, nat_tests, there, ends))

    -- so is the object of each ask
    ask_stored : (port : ℕ) (n : Node) → node V port ≡ Some n → (w : Wanted) →
        list_any (same_wanted w) n.asked ≡ true → is_stored V w.object ≡ true
    ask_stored port n here w e =
        stored_same w.object (node V w.object.node)
        ∙ asked_stored (first_ends table seats) (net_of links V) stands.lent.backed
        (reach table seats V stands.lent.stands open_all) port w.object.node w.object.serial
        w.token.lender w.token.number
        (ap (λ found. has_wanted (part_seen links found) w) here ∙ e)

    -- and so is one that is asked for
    among_asked : (ws : List Wanted) → AllByRecursion (λ w. is_stored V w.object ≡ true) ws →
        (o : ObjectName) → list_any (λ w. same_object o w.object) ws ≡ true →
        is_stored V o ≡ true
    among_asked [] all o h = absurd (cc)
    among_asked (w ∷ ws) all o h = go (same_object o w.object) refl (among_asked ws all.1 o) h
      where
        go : (b : Bool) → same_object o w.object ≡ b →
            (list_any (λ w. same_object o w.object) ws ≡ true → is_stored V o ≡ true) →
            (b || list_any (λ w. same_object o w.object) ws) ≡ true → is_stored V o ≡ true
        go true e rest k =
            subst (λ z. is_stored V z ≡ true) (sym (object_is o w.object e)) all.0
        go false e rest k = rest k

    -- and each that is at hand
    hand_stored : (port : ℕ) (n : Node) → node V port ≡ Some n → (o : ObjectName) →
        is_at_hand n o ≡ true → is_stored V o ≡ true
    hand_stored port n here o h = go (is_own n o) refl h
      where
        known : is_known n o ≡ true → is_stored V o ≡ true
        known k = elim (or_cases (holds n o) (has_asked n o) k) [
          | inl a ↦ held_stored port n here o a
          | inr b ↦ among_asked n.asked
              (recursion_from_All (λ w. is_stored V w.object ≡ true) n.asked
              (all_in same_wanted wanted_itself (λ w. is_stored V w.object ≡ true) n.asked
              (ask_stored port n here))) o b
        ]

        go : (b : Bool) → is_own n o ≡ b →
            cond b (is_some (stored o.serial n.heap)) (is_known n o) ≡ true →
            is_stored V o ≡ true
        go true e k =
            let at : o.node ≡ port = eqb-true o.node n.port e ∙ stands.lent.home.each port n here in
            ap (λ p. some_passes (λ (m : Node). is_some (stored o.serial m.heap)) (node V p)) at
            ∙ ap (some_passes (λ (m : Node). is_some (stored o.serial m.heap))) here ∙ k
        go false e k = known k

    -- what is named is stored
    pub reached_stored : NamedAreStored V
    reached_stored = record {
      each = λ port n here o named.
          hand_stored port n here o (reached_at_hand.each port n here o named);
    }
