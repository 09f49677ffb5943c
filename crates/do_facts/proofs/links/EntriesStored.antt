-- In every state that a machine comes to, an object of which a peer has an entry is stored.
use Rattle.std.proofs.Common.{◌≡◌, ◌<◌, ◌&&◌, ℕ, Bool, true, List, [], refl, sym, ap, ◌∙◌, subst}
use Rattle.std.{proofs.Common.arith, specs.Prelude.{None, Option, Some, is_some, nat_lt}}
use Rattle.std.proofs.lemmas.Bool.Decides.{nat_tests}
use Rattle.do_base.specs.{declared.events.event.Event.Event, names.Names.ObjectName}
use Rattle.do_class.specs.Class.{Class}
use Rattle.do_machine.specs.declared.{node.Node.Node, state.{Seat.Seat, State.State}}
use Rattle.do_machine.specs.{Context.around, Entry.has_entry, Lists.some_passes, Objects.object_at}
use Rattle.do_machine.specs.{State.{node, stored}, Step.step, World.opening, held.Kept.kept}
use Rattle.do_machine.specs.run.Run.{Acting}
use Rattle.do_facts.specs.{Net.{Net, net_after}, Moves.Moved, Made.{EnteredAreStored, is_stored}}
use Rattle.do_facts.specs.{Reached.reached, View.{net_of, part_seen}, links.Facts.open_in}
use Rattle.do_facts.specs.links.{Links.{Atom, Links, links, links_of}, LinksAreKept.LinksAreKept}
use Rattle.do_facts.specs.links.Moves.{Strikes, is_there, opens, stores}
use Rattle.do_facts.proofs.OpeningAsNet.{opening_parts, opening_wires}
use Rattle.do_facts.proofs.{ReachedStates.holds_of_reached, links.EntriesAsNet.entry_same}
use Rattle.do_facts.proofs.links.EntriesKept.{EntriesHold, entries_keep, in_use, strikes}
use Rattle.do_facts.proofs.links.{HeapsGrow.kept_before, LinksKept.links_keep}
use Rattle.do_facts.proofs.links.ReachedLinks.{opening_keeps, step_keeps}
use Rattle.do_facts.proofs.links.StepsByActs.{freed, step_fact}
use Rattle.do_facts.proofs.steps.NodesAtHome.{AllAtHome, opening_home, step_home}
use Rattle.do_facts.proofs.links.KeptStays.{entry_holds_up, kept_still}

-- ---- what a node frees

module _ (V : State) (port : ℕ) (n : Node) (here : node V port ≡ Some n) (home : n.port ≡ port)
    (all : EntriesHold (net_of links V)) where
  -- the net
  abbrev net : Net Links Atom
  net = net_of links V

  -- the part of the node
  part_is : net.part port ≡ links_of n
  part_is = ap (part_seen links) here

  -- what is in use at a peer is kept
  kept_in_use : (b s : ℕ) → opens (net.part port) b ≡ true → 0 < in_use net port b s →
      stores (net.part port) s ≡ true → is_there (kept (around V n).entry n) s ≡ true
  kept_in_use b s ends used there =
      let entry = (around V n).entry in
      let is : entry b s ≡ true =
      ap (λ p. has_entry V b (object_at p s)) home ∙ entry_same port b s V
      ∙ both (open_in net port b) (in_use net port b s) ends used
      in
      kept_still entry n s
      (entry_holds_up entry n b s (ap (λ p. opens p b) (sym part_is) ∙ ends) is)
      (ap (λ p. stores p s) (sym part_is) ∙ there)
    where
      both : (b : Bool) (k : ℕ) → b ≡ true → 0 < k → (b && nat_lt 0 k) ≡ true
      both b k x y = grind (arith, nat_tests, x, y)

  -- so all holds once it freed the rest
  pub frees_entries : EntriesHold (freed V port n)
  frees_entries =
      let heap = kept (around V n).entry n in
      subst (λ (p : Links). EntriesHold (net_after port (record p { heap = heap }) [] [] net))
      part_is
      (record {
        hold = links_keep.by net (Moved port (Strikes heap)) all.hold (
          λ s h. ap (λ p. stores p s) part_is ∙ kept_before (around V n).entry n s h,
          λ x h. (net.wire x port, refl),
        );
        entered = strikes net port all.hold all.entered heap kept_in_use;
      })

-- ---- states

-- links are kept, nodes stand at home, and what is in use is stored
pub record EntriesKept (S : State) : Type 0 where
  pub kept : LinksAreKept S
  pub home : AllAtHome S
  pub entries : EntriesHold (net_of links S)

-- a machine opens so
pub opening_entries : (table : List Class) (seats : List Seat) →
    EntriesKept (opening table seats)
opening_entries table seats =
    let S = opening table seats in
    let kept = opening_keeps table seats in
    record {
      kept = kept;
      home = opening_home table seats;
      entries = record {
        hold = kept.hold;
        entered = λ a m s. record {
          stored = λ o used.
              let none = opening_parts table seats links (λ port p. p.held ≡ []) (λ port. refl)
              (λ ports seat. refl) m
              in
              absurd (grind (
                arith,
                nat_tests,
                used,
                none,
                opening_wires table seats links a m,
                opening_wires table seats links m a,
              ));
        };
      };
    }

module _ (table : List Class) (act : Acting) where
  -- a step
  pub step_entries : (S : State) (event : Event) → EntriesKept S →
      EntriesKept (step table act S event).state
  step_entries S event h = record {
    kept = step_keeps table act S event h.kept;
    home = step_home table act S event h.home;
    entries = step_fact EntriesHold entries_keep frees_entries S h.kept h.home h.entries table act
        event;
  }

  -- every state that a machine comes to
  pub reached_entries : (seats : List Seat) (events : List Event) →
      EntriesKept (reached table act seats events)
  reached_entries seats events =
      holds_of_reached table act EntriesKept step_entries seats events
      (opening_entries table seats)

-- an object is stored where the part of its home says so
pub stored_same : (o : ObjectName) (found : Option Node) →
    some_passes (λ n. is_some (stored o.serial n.heap)) found
    ≡ stores (part_seen links found) o.serial
stored_same o None = refl
stored_same o (Some n) = refl

-- an object of which a peer has an entry is stored
pub entered_stored : (S : State) → EntriesKept S → EnteredAreStored S
entered_stored S h = record { each = stored_at }
  where
    parts : (b : Bool) (k : ℕ) → (b && nat_lt 0 k) ≡ true → (b ≡ true) × (0 < k)
    parts b k e = (grind (arith, nat_tests, e), grind (arith, nat_tests, e))

    stored_at : (peer : ℕ) (o : ObjectName) → has_entry S peer o ≡ true → is_stored S o ≡ true
    stored_at peer o e =
        let net = net_of links S in
        let r = parts (open_in net o.node peer) (in_use net o.node peer o.serial)
        (sym (entry_same o.node peer o.serial S) ∙ e)
        in
        stored_same o (node S o.node)
        ∙ (h.entries.entered o.node peer o.serial).stored r.0 r.1
