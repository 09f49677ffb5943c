-- In every state that a machine comes to, each object that is named was made.
use Rattle.do_machine.specs.declared.item.Item.TheVariants as items
use Rattle.do_facts.specs.links.Links as Atoms
use Rattle.std.proofs.Common.{◌≡◌, ◌++◌, ◌<◌, ℕ, true, List, [], ◌∷◌, map, sym, ap, subst, arith}
use Rattle.std.specs.{Prelude.{All, None, Option, Some, nat_lt}, List.flat_map}
use Rattle.std.proofs.lemmas.{Bool.Decides.nat_tests, List.Elements.{All-cons, All-head, All-map}}
use Rattle.std.proofs.lemmas.List.Elements.{All-nil, All-same, All-tail, All-weaker}
use Rattle.do_base.specs.{declared.events.event.Event.Event, names.Names.ObjectName}
use Rattle.do_class.specs.{Class.Class, declared.packet.Name.Name}
use Rattle.do_class.specs.declared.packet.Name.TheVariants.{Lent, Mine, Yours}
use Rattle.do_machine.specs.declared.{item.{Item.Item, Message.Message}, node.Node.Node}
use Rattle.do_machine.specs.{declared.state.{Seat.Seat, State.State}, Items.{Exported, Mentioned}}
use Rattle.do_machine.specs.Items.{Naming, Released, name_naming, names, naming}
use Rattle.do_machine.specs.{Lists.some_passes, State.node, Step.step, World.opening}
use Rattle.do_machine.specs.run.Run.{Acting}
use Rattle.do_facts.specs.{ByEvents.IsBy, Made.{NamedAreMade, was_made}, Reached.reached}
use Rattle.do_facts.specs.View.{net_of, part_seen, wire_seen}
use Rattle.do_facts.specs.links.Links.{Atom, atoms, links, links_of, name_atoms}
use Rattle.do_facts.specs.links.{LinksAreKept.LinksAreKept, Moves.link_rules}
use Rattle.do_facts.proofs.{OpeningAsNet.{opening_parts, opening_wires}, Paths.stays}
use Rattle.do_facts.proofs.{ReachedStates.holds_of_reached, links.NamesMade.{AllMade, Made}}
use Rattle.do_facts.proofs.links.{NamesMade.made_keeps, NamesPass.{NamesOnly, Passes}}
use Rattle.do_facts.proofs.links.ReachedLinks.{opening_keeps, step_keeps, step_moves}

-- ---- items as atoms

-- the first and the rest of elements that pass
former_pass : {X : Type 0} (P : X → Type 0) (xs ys : List X) → All P (xs ++ ys) → All P xs
former_pass P [] ys h = All-nil P
former_pass P (x ∷ xs) ys h =
    All-cons P x xs (All-head P x (xs ++ ys) h)
    (former_pass P xs ys (All-tail P x (xs ++ ys) h))

latter_pass : {X : Type 0} (P : X → Type 0) (xs ys : List X) → All P (xs ++ ys) → All P ys
latter_pass P [] ys h = h
latter_pass P (x ∷ xs) ys h = latter_pass P xs ys (All-tail P x (xs ++ ys) h)

module _ (P : ObjectName → Type 0) (from to : ℕ) where
  -- the atoms name only such
  abbrev AtomsPass : List Atom → Type 0
  AtomsPass xs = All (Passes P from to) xs

  -- the names of a message
  names_pass : (ns : List Name) → AtomsPass (flat_map name_atoms ns) →
      All (λ x. P x.object) (map (name_naming from to) ns)
  names_pass [] h = All-nil (λ x. P x.object)
  names_pass (Mine s class ∷ ns) h =
      All-cons (λ x. P x.object) (name_naming from to (Mine s class))
      (map (name_naming from to) ns)
      (All-head (Passes P from to) (Atoms.Mine s) (flat_map name_atoms ns) h)
      (names_pass ns (All-tail (Passes P from to) (Atoms.Mine s) (flat_map name_atoms ns) h))
  names_pass (Yours s ∷ ns) h =
      All-cons (λ x. P x.object) (name_naming from to (Yours s)) (map (name_naming from to) ns)
      (All-head (Passes P from to) (Atoms.Yours s) (flat_map name_atoms ns) h)
      (names_pass ns (All-tail (Passes P from to) (Atoms.Yours s) (flat_map name_atoms ns) h))
  names_pass (Lent o class t ∷ ns) h =
      All-cons (λ x. P x.object) (name_naming from to (Lent o class t))
      (map (name_naming from to) ns)
      (All-head (Passes P from to) (Atoms.Lent o t) (flat_map name_atoms ns) h)
      (names_pass ns (All-tail (Passes P from to) (Atoms.Lent o t) (flat_map name_atoms ns) h))

  -- all that an item names
  abbrev ItemPasses : Item → Type 0
  ItemPasses item = All (λ x. P x.object) (names from to item)

  -- one object
  one_passes : (x : Atom) → AtomsPass (x ∷ []) → Passes P from to x
  one_passes x h = All-head (Passes P from to) x [] h

  -- one name, and none
  one_name : (x : Naming) → P x.object → All (λ y. P y.object) (x ∷ [])
  one_name x h = All-cons (λ y. P y.object) x [] h (All-nil (λ y. P y.object))

  no_name : All (λ (y : Naming). P y.object) []
  no_name = All-nil (λ y. P y.object)

  -- a message names its target, and more
  message_passes : (m : Message) →
      AtomsPass (Atoms.Yours m.target ∷ flat_map name_atoms m.packet.names) →
      ItemPasses (items.Oneway m)
  message_passes m h =
      let more = flat_map name_atoms m.packet.names in
      All-cons (λ x. P x.object) (naming Mentioned to m.target)
      (map (name_naming from to) m.packet.names)
      (All-head (Passes P from to) (Atoms.Yours m.target) more h)
      (names_pass m.packet.names (All-tail (Passes P from to) (Atoms.Yours m.target) more h))

  -- an item whose atoms name only such
  item_passes : (item : Item) → AtomsPass (atoms item) → ItemPasses item
  item_passes (items.Call number m) h = message_passes m h
  item_passes (items.Oneway m) h = message_passes m h
  item_passes (items.Reply number packet) h = names_pass packet.names h
  item_passes (items.RootAnswer number packet) h = names_pass packet.names h
  item_passes (items.Ask s k) h = one_name (naming Mentioned to s) (one_passes (Atoms.Ask s k) h)
  item_passes (items.Granted s k) h =
      one_name (naming Exported from s) (one_passes (Atoms.Granted s k) h)
  item_passes (items.Gone s k) h =
      one_name (naming Mentioned from s) (one_passes (Atoms.Gone s k) h)
  item_passes (items.Left s) h = one_name (naming Released to s) (one_passes (Atoms.Left s) h)
  item_passes (items.End ss) h =
      All-map (λ x. P x.object) (naming Released to) ss (one_passes (Atoms.End ss) h)
  item_passes _ h = no_name

  -- items one behind the other
  items_pass : (queued : List Item) → AtomsPass (flat_map atoms queued) → All ItemPasses queued
  items_pass [] h = All-nil ItemPasses
  items_pass (item ∷ queued) h =
      All-cons ItemPasses item queued
      (item_passes item (former_pass (Passes P from to) (atoms item) (flat_map atoms queued) h))
      (items_pass queued (latter_pass (Passes P from to) (atoms item) (flat_map atoms queued) h))

-- ---- states

module _ (S : State) (all : AllMade (net_of links S)) where
  -- what was made in the net was made in the state
  made_there : (o : ObjectName) → Made (net_of links S) o → was_made S o ≡ true
  made_there o h = go (node S o.node) h
    where
      go : (found : Option Node) → o.serial < (part_seen links found).serial →
          some_passes (λ n. nat_lt o.serial n.next_serial) found ≡ true
      go None k = absurd (omega (arith, k))
      go (Some n) k = grind (arith, nat_tests, k)

  -- what a node names was made
  part_made : (port : ℕ) (n : Node) → node S port ≡ Some n →
      NamesOnly (Made (net_of links S)) (links_of n)
  part_made port n h =
      subst (λ found. NamesOnly (Made (net_of links S)) (part_seen links found)) h (all.parts port)

  -- all that is named was made
  pub all_made : NamedAreMade S
  all_made = record {
    held = λ port n h.
        All-weaker (Made (net_of links S)) (λ o. was_made S o ≡ true) made_there n.held
        (part_made port n h).held;
    lent = λ port n h.
        All-weaker (λ l. Made (net_of links S) l.object) (λ l. was_made S l.object ≡ true)
        (λ l. made_there l.object) n.lent (part_made port n h).lent;
    asked = λ port n h.
        All-weaker (λ w. Made (net_of links S) w.object) (λ w. was_made S w.object ≡ true)
        (λ w. made_there w.object) n.asked (part_made port n h).asked;
    waiting = λ from to queued h.
        All-weaker (ItemPasses (Made (net_of links S)) from to)
        (ItemPasses (λ o. was_made S o ≡ true) from to)
        (λ item. All-weaker (λ x. Made (net_of links S) x.object)
        (λ x. was_made S x.object ≡ true) (λ x. made_there x.object) (names from to item)) queued
        (items_pass (Made (net_of links S)) from to queued
        (All-same (Passes (Made (net_of links S)) from to) (flat_map atoms queued)
        ((net_of links S).wire from to) (sym (ap (wire_seen links) h)) (all.wires from to)));
  }

-- links are kept, and what is named was made
pub record NamesKept (S : State) : Type 0 where
  pub kept : LinksAreKept S
  pub made : AllMade (net_of links S)

module _ (table : List Class) (act : Acting) where
  -- a step
  step_made : (S : State) (event : Event) → NamesKept S → NamesKept (step table act S event).state
  step_made S event h = record {
    kept = step_keeps table act S event h.kept;
    made = stays link_rules AllMade made_keeps (IsBy event) (net_of links S)
        (net_of links (step table act S event).state) (step_moves table act S event h.kept)
        h.made;
  }

  -- a machine opens so
  opening_made : (seats : List Seat) → NamesKept (opening table seats)
  opening_made seats =
      let S = opening table seats in
      let P = Made (net_of links S) in
      let kept = opening_keeps table seats in
      record {
        kept = kept;
        made = record {
          hold = kept.hold;
          sound = kept.sound;
          parts = opening_parts table seats links (λ port p. NamesOnly P p)
              (λ port. record {
                held = All-nil P;
                lent = All-nil (λ l. P l.object);
                asked = All-nil (λ w. P w.object);
              })
              (λ ports s. record {
                held = All-nil P;
                lent = All-nil (λ l. P l.object);
                asked = All-nil (λ w. P w.object);
              });
          wires = λ a b.
              All-same (Passes P a b) ((net_of links S).wire a b) []
              (opening_wires table seats links a b) (All-nil (Passes P a b));
        };
      }

  -- every state that a machine comes to
  pub reached_names : (seats : List Seat) (events : List Event) →
      NamesKept (reached table act seats events)
  reached_names seats events =
      holds_of_reached table act NamesKept step_made seats events (opening_made seats)

  -- what is named there was made
  pub reached_made : (seats : List Seat) (events : List Event) →
      NamedAreMade (reached table act seats events)
  reached_made seats events =
      all_made (reached table act seats events) (reached_names seats events).made
