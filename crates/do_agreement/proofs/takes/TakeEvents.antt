-- A take keeps a network in agreement with the state.
use Rattle.do_machine.specs.declared.item.Item.TheVariants as items
use Rattle.do_network.specs.declared.input.Done.TheVariants as dones
use Rattle.do_agreement.proofs.takes.Taking as takes
use Rattle.std.proofs.Common.{◌≡◌, ◌==◌, ◌&&◌, ◌||◌, ℕ, Bool, true, false, List, [], ◌∷◌, refl, sym}
use Rattle.std.{proofs.Common.{ap, ◌∙◌, arith}, specs.Prelude.{None, Some, option_map}}
use Rattle.std.{specs.List.{AllByRecursion, list_any}, proofs.lemmas.Bool.Decides.nat_tests}
use Rattle.do_base.specs.{declared.events.event.Event.TheVariants.Take, names.Names.ObjectName}
use Rattle.do_class.specs.{Class.Class, declared.ids.ClassId.ClassId}
use Rattle.do_packet.specs.Met.{same_object}
use Rattle.do_machine.specs.{declared.node.Wanted.Wanted, lend.Asking.{same_wanted, wanted}}
use Rattle.do_machine.specs.declared.{item.Item.Item, node.Node.Node, state.Effect.Effect}
use Rattle.do_machine.specs.{declared.state.State.State, Commit.moved}
use Rattle.do_machine.specs.{Context.{Surroundings, around, context}, Entry.has_entry}
use Rattle.do_machine.specs.{Objects.object_at, State.{class_of, holds, is_known}, run.Run.Acting}
use Rattle.do_machine.specs.take.Take.{take_effect}
use Rattle.do_facts.specs.{Net.noted, links.Links.atoms, steps.IsStep.{IsStep, Takes}}
use Rattle.do_facts.proofs.steps.OthersStay.{class_requeued, class_stays}
use Rattle.do_coder.specs.declared.recent.pair.Pair.{Pair}
use Rattle.do_network.specs.{declared.fault.PeerFault.PeerFault, Counting.{counted, item_classes}}
use Rattle.do_network.specs.{Faults.{is_asked, peer_fault, unless}, Frames.{frame_of, item_of}}
use Rattle.do_network.specs.{Links.Part, Net.Net, Own.{class_kept, counted_around, is_counted}}
use Rattle.do_network.specs.{Site.{handled, moves, released_by, site_move}, Spelled.SentSpelled}
use Rattle.do_network.specs.{Step.{NetStepped, net_moved, place_after}, fits.Fits.Fits}
use Rattle.do_network.{specs.fits.Notes.{Note, note_frame}, proofs.NoFault.fits_faultless}
use Rattle.do_agreement.specs.{Agrees.{Agrees, StepAgrees}, InHand.{in_hand, taken_by}}
use Rattle.do_agreement.specs.NetInHand.{carried_as, closes_for, ends, net_in_hand, net_without}
use Rattle.do_agreement.specs.{NetInHand.{part_in_hand, without_first}, Tallies.left_after}
use Rattle.do_agreement.proofs.classes.ClassesAfter.{IsClassed, classes_moved, classes_stay_so}
use Rattle.do_agreement.proofs.classes.ClassesAfter.{known_in_hand, told_in_hand}
use Rattle.do_agreement.proofs.classes.KnownAfter.{GrantedIs, item_such, known_after}
use Rattle.do_agreement.proofs.acts.ActsAgree.{known_some, left_known}
use Rattle.do_agreement.proofs.agreement.AgreesFits.{fits_so, same_way}
use Rattle.do_agreement.proofs.{commits.EntriesJudged.counts_judge, places.PlacesChanged.by_part}
use Rattle.do_agreement.proofs.takes.TakeTallies.{take_commits, take_moves, take_outcome}
use Rattle.do_agreement.proofs.takes.TakeTallies.{take_sound, take_tallies}
use Rattle.do_agreement.proofs.takes.TakesAlike.{around_alike, site_effect, take_alike}
use Rattle.do_agreement.proofs.{places.Numbers.flipped, takes.Taking.{Taking, apart_from}}
use Rattle.do_agreement.proofs.takes.Taking.{node_there, port_is, sender_there, site_there, waits}
use Rattle.do_agreement.proofs.hands.HandSites.{parts_still, there_still}

-- what an ask is of is known
pub asked_known : (home serial lender number : ℕ) (n : Node) →
    is_asked home serial (record { lender = lender; number = number }) n ≡ true →
    is_known n (object_at home serial) ≡ true
asked_known home serial lender number n h =
    or_later (holds n (object_at home serial)) (go n.asked h)
  where
    or_later : (a : Bool) {b : Bool} → b ≡ true → (a || b) ≡ true
    or_later true h = refl
    or_later false h = h

    go : (ws : List Wanted) →
        list_any (same_wanted (wanted (object_at home serial) lender number)) ws ≡ true →
        list_any (λ w. same_object (object_at home serial) w.object) ws ≡ true
    go [] e = e
    go (w ∷ ws) e = grind (arith, nat_tests, e, go ws)

-- a test that must pass, so that there is no fault, passes
no_fault : (b : Bool) (fault : PeerFault) → unless b fault ≡ None → b ≡ true
no_fault true fault e = refl
no_fault false fault e = absurd (cc)

module _ {table : List Class} {act : Acting} {N : Net} {S : State} {agrees : Agrees table N S}
    {port from : ℕ} {x : Note} {xs : List Note}
    (taking : Taking table act N S agrees port from x xs) where
  -- the site
  abbrev p : Part
  p = taking.pl.part

  -- what is under way
  abbrev under_way : ℕ → ℕ → List Note
  under_way = agrees.tallies.under_way

  -- the names by which the item is spelled
  abbrev names : List Pair
  names = takes.names taking

  -- the items that are left
  abbrev rest : List Item
  rest = takes.rest taking

  -- the state without the item
  abbrev T : State
  T = takes.T taking

  -- the network without the item
  abbrev K : Net
  K = net_without port from (carried_as names x) N

  -- what the take is judged by, at the site
  abbrev site_around : Surroundings
  site_around = counted_around (released_by from (note_frame x) p.own)

  -- the effect at the site
  abbrev site : Effect
  site = take_effect (record { table = table; around = site_around; node = p.own.node }) from
      (item_of (note_frame x))

  -- the effect at the machine's node
  abbrev machine : Effect
  machine = take_effect (context table T p.own.node) from x.item

  -- an item that is no end is judged as the machine judges
  judged : ends x.item ≡ false → site_around ≡ around T p.own.node
  judged open_still =
      around_alike S T (λ o. class_requeued from port rest o S.stations) p.own
      (known_some table act N S agrees taking.kept taking.told port p (site_there taking))
      (agrees.classes port p (site_there taking)) from x
      (λ peer serial.
      let commits = take_commits taking site_around in
      counts_judge table port p.own.node (net_in_hand port from names x p N)
      (without_first port from xs under_way) T (closes_for port from x)
      commits.fit commits.shows (part_in_hand from x p)
      (ap (option_map (λ y. y.part)) commits.there) (λ k. refl)
      (λ k. ap (λ b. b && ((port == port) && (k == from))) open_still) peer serial
      ∙ ap (λ k. has_entry T peer (object_at k serial)) (sym (port_is taking)))

  -- so the site and the node have one effect
  pub one_effect : site ≡ machine
  one_effect = take_alike table site_around (around T p.own.node) p.own.node from x.amount x.item
      judged

  -- and the site has what its input says
  pub site_is : taken_by table from x p.own ≡ site
  site_is = site_effect table from x p.own

  -- the network stands for the state
  abbrev F : Fits table N S
  F = fits_so table N S agrees taking.kept taking.calls

  -- the frame is none of the faults
  pub faultless : peer_fault p.own from (note_frame x) ≡ None
  faultless =
      fits_faultless table N S F port from p taking.pf.part (site_there taking)
      (sender_there taking)
      (flipped from port (apart_from taking)) taking.here x xs
      (same_way table N S agrees taking.kept taking.calls from port ∙ taking.first)

  -- what the item tells
  tells : AllByRecursion (λ y. class_of S y.object ≡ Some y.class)
      (item_classes from x.item)
  tells = (taking.told.told from port (x.item ∷ rest) (waits taking)).0

  -- an object that is granted is known, and the right class is kept of it
  granted : GrantedIs (IsClassed S (in_hand from x p.own).classes) from
      (item_of (note_frame x))
  granted = go x.item faultless
    where
      known : (s lender number : ℕ) →
          is_asked from s (record { lender = lender; number = number }) p.own.node ≡ true →
          IsClassed S (in_hand from x p.own).classes (object_at from s)
      known s lender number h =
          known_in_hand S p.own (known_some table act N S agrees taking.kept taking.told port p
          (site_there taking))
          (agrees.classes port p (site_there taking)) from x tells (object_at from s)
          (asked_known from s lender number p.own.node h)

      go : (item : Item) → peer_fault p.own from (frame_of x.amount item) ≡ None →
          GrantedIs (IsClassed S (in_hand from x p.own).classes) from
          (item_of (frame_of x.amount item))
      go (items.Granted s k) e = known s k.lender k.number (no_fault _ _ e)
      go _ e = tt

  -- what the network does
  abbrev does : NetStepped
  does = net_moved port K (handled (part_in_hand from x p) dones.Moved
      (site_move (in_hand from x p.own) site))

  module _ (spelled : SentSpelled table (moves (part_in_hand from x p) site)) where
    -- the state after the take
    abbrev after : State
    after = (moved port T site).state

    -- a class that was given stays
    still : (o : ObjectName) (c : ClassId) → class_of S o ≡ Some c → class_of after o ≡ Some c
    still o c h =
        let form : IsStep table act S (Take port from) (moved port T site) =
        Takes port from p.own.node x.item rest site refl
        (node_there taking) (taking.here, one_effect) (waits taking) refl in
        class_stays o c S (Take port from) (moved port T site) form h

    -- the network agrees with the state after the take
    pub take_agrees : StepAgrees table does (moved port T site)
    take_agrees =
        let n = p.own.node in
        let runs = take_moves taking site_around in
        let some = known_some table act N S agrees taking.kept taking.told port p
        (site_there taking) in
        let classes = agrees.classes port p (site_there taking) in
        let mine = in_hand from x p.own in
        record {
          agrees = record {
            tallies = take_tallies taking site_around spelled;
            classes = by_part port
                (place_after (handled (part_in_hand from x p) dones.Moved (site_move mine site)))
                (λ y. refl) K taking.pl
                (there_still (takes.hand taking))
                (λ a z. (o : ObjectName) →
                class_kept z.own o ≡ (around after z.own.node).class_of o)
                (classes_moved S after still mine site (left_after mine site)
                (known_after (IsClassed S mine.classes) n
                (noted from (atoms (item_of (note_frame x)))) site runs
                (known_in_hand S p.own some classes from x tells)
                (item_such (IsClassed S mine.classes) from (item_of (note_frame x))
                (told_in_hand S p.own some classes from x tells) granted))
                (left_known site.node (is_counted (counted mine site))
                (take_sound taking site_around)))
                (λ a z ne k.
                let was = sym (parts_still (takes.hand taking) a) ∙ k in
                classes_stay_so S after still z.own
                (known_some table act N S agrees taking.kept taking.told a z was)
                (agrees.classes a z was));
          };
          outcome = take_outcome taking site_around spelled;
        }
