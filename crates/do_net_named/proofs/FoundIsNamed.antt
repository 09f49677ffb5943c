-- What is found by what nodes and queues tell is named in the state.
use Rattle.do_machine.specs.declared.item.Item.TheVariants as items
use Rattle.std.proofs.Common.{◌≡◌, ◌∙◌, ◌++◌, ℕ, Bool, true, false, List, [], ◌∷◌, map, Option}
use Rattle.std.{proofs.Common.{Some, None, refl, sym, ap, subst, inl, inr}, specs.Prelude.not}
use Rattle.std.{specs.List.{filter, flat_map, list_any}, proofs.lemmas.Bool.and_parts}
use Rattle.do_base.specs.names.Names.{ObjectName}
use Rattle.do_cycles.proofs.Among.{item_named, node_named}
use Rattle.do_cycles.proofs.InLists.{any_passes, images_in, joined_in, named_by_any}
use Rattle.do_leaks.proofs.Named.{in_either, same_is}
use Rattle.do_lost.specs.Named.{item_names, named, serves}
use Rattle.do_machine.specs.{Entry.{has_entry, is_holder}, Lists.{IsIn, some_passes}}
use Rattle.do_machine.specs.{State.{holds, is_open, node, own, ports, queue}, World.others}
use Rattle.do_machine.specs.check.Snapshot.{entries_for, entry_of, node_line, own_objects, snapshot}
use Rattle.do_machine.specs.declared.{item.Item.Item, node.{Node.Node, Stored.Stored}}
use Rattle.do_machine.{specs.declared.state.{State.State, Station.Station}, proofs.Bools.or_cases}
use Rattle.do_packet.specs.Met.{has_object, same_object}
use Rattle.do_trace.specs.declared.outcome.{Entry.Entry, NodeLine.NodeLine}
use Rattle.do_net_named.proofs.{StandAlone.chosen_in, StateNamed.{between_names, items_names}}
use Rattle.do_net_named.proofs.StateNamed.{names_at, state_named, told_at}
use Rattle.do_cycles.proofs.EntriesNamed.{entry_held_or_named}

-- an element that passes is in the list
pub passing_in : {X : Type 0} (test : X → Bool) (xs : List X) → list_any test xs ≡ true →
    (x : X) × IsIn xs x × (test x ≡ true)
passing_in test [] h = absurd (cc)
passing_in test (x ∷ xs) h = elim (or_cases (test x) (list_any test xs) h) [
  | inl e ↦ (x, inl refl, e)
  | inr e ↦ let r = passing_in test xs e in (r.0, inr r.1, r.2)
]

-- an object that one of the elements names
pub among_all : {X : Type 0} (f : X → List ObjectName) (xs : List X) (o : ObjectName) →
    has_object (flat_map f xs) o ≡ true → (x : X) × IsIn xs x × (has_object (f x) o ≡ true)
among_all f xs o h =
    passing_in (λ x. has_object (f x) o) xs (sym (named_by_any f xs o) ∙ h)

-- what the nodes of a state name
abbrev pub at_nodes : State → List ObjectName
at_nodes S = flat_map (λ port. names_at (node S port)) (ports S)

-- what waits between them
abbrev pub between : State → List ObjectName
between S = flat_map (λ from. flat_map (between_names S from) (others (ports S) from)) (ports S)

-- and what is told of ends that closed
abbrev pub told : State → List ObjectName
told S = flat_map (told_at S) (snapshot S).nodes

module _ (S : State) (o : ObjectName) where
  -- what an item names, where ends name nothing, it names in any case
  named_more : (from to : ℕ) (b : Bool) (item : Item) →
      has_object (item_names from to false item) o ≡ true →
      has_object (item_names from to b item) o ≡ true
  named_more from to b (items.End serials) h = absurd (cc)
  named_more from to b _ h = h

  -- a peer whose end is closed is no holder
  no_holder : (peer : ℕ) (found : Option Node) → node S peer ≡ found →
      serves S peer o.node ≡ false → some_passes (is_holder o) found ≡ true → ⊥
  no_holder peer None e shut h = cc
  no_holder peer (Some n) e shut h =
      no (and_parts (is_open n o.node) (holds n o) h).0
      (ap (some_passes (λ (m : Node). is_open m o.node)) (sym e) ∙ shut)
    where
      no : {b : Bool} → b ≡ true → b ≡ false → ⊥
      no x y = cc

  -- an object in use at a peer whose end is closed is named by an item
  entry_named : (peer : ℕ) → has_entry S peer o ≡ true → serves S peer o.node ≡ false →
      has_object (named S) o ≡ true
  entry_named peer h shut = elim (entry_held_or_named S o peer h) [
    | inl y ↦ absurd (no_holder peer (node S peer) refl shut y)
    | inr y ↦ y
  ]

  -- what an end that closed tells of is named
  told_named : (line : NodeLine) → IsIn (snapshot S).nodes line →
      has_object (told_at S line) o ≡ true → has_object (named S) o ≡ true
  told_named line i h =
      let from = images_in (λ (s : Station). node_line S s.node) S.stations line i in
      let n : Node = from.0.node in
      let told : has_object (told_at S (node_line S n)) o ≡ true =
      subst (λ l. has_object (told_at S l) o ≡ true) (sym from.2) h in
      let test : Entry → Bool = λ e. not (serves S e.peer n.port) in
      let all : List Entry = flat_map (entries_for S n) n.open_to in
      let one = passing_in (same_object o) (map (λ (e : Entry). e.object) (filter test all)) told in
      let is = images_in (λ (e : Entry). e.object) (filter test all) one.0 one.1 in
      let kept = chosen_in test all is.0 is.1 in
      let by = joined_in (entries_for S n) n.open_to is.0 kept.0 in
      let entry = images_in (entry_of by.0) (filter (has_entry S by.0) (own_objects n)) is.0 by.2 in
      let has = chosen_in (has_entry S by.0) (own_objects n) entry.0 entry.1 in
      let mine = images_in (λ (x : Stored). own n x.serial) n.heap entry.0 has.0 in
      let same : entry.0 ≡ o =
      ap (λ (e : Entry). e.object) entry.2 ∙ is.2 ∙ sym (same_is o one.0 one.2) in
      let home : o.node ≡ n.port = ap (λ (k : ObjectName). k.node) (sym (mine.2 ∙ same)) in
      entry_named by.0 (subst (λ k. has_entry S by.0 k ≡ true) same has.1)
      (shut (serves S by.0 o.node)
      (ap (λ p. not (serves S by.0 p)) home
      ∙ ap (λ (e : Entry). not (serves S e.peer n.port)) entry.2 ∙ kept.1))
    where
      shut : (b : Bool) → not b ≡ true → b ≡ false
      shut true e = absurd (cc)
      shut false e = refl

  -- what items between two nodes name is named
  between_named : (from to : ℕ) (found : Option (List Item)) → queue S from to ≡ found →
      has_object (items_names from to found) o ≡ true → has_object (named S) o ≡ true
  between_named from to None e h = absurd (cc)
  between_named from to (Some sent) e h =
      let at = among_all (item_names from to false) sent o h in
      item_named S o from to sent e
      (any_passes (λ item. has_object (item_names from to (serves S to from) item) o) sent at.0 at.1
      (named_more from to (serves S to from) at.0 at.2))

  -- what a node names is named
  at_named : (port : ℕ) (found : Option Node) → node S port ≡ found →
      has_object (names_at found) o ≡ true → has_object (named S) o ≡ true
  at_named port None e h = absurd (cc)
  at_named port (Some n) e h = node_named S o port n e h

  -- all that is found is named
  pub found_is_named : has_object (state_named S) o ≡ true → has_object (named S) o ≡ true
  found_is_named h = elim (in_either (at_nodes S ++ between S) (told S) o h) [
    | inl x ↦ elim (in_either (at_nodes S) (between S) o x) [
      | inl y ↦ let at = among_all (λ port. names_at (node S port)) (ports S) o y in
          at_named at.0 (node S at.0) refl at.2
      | inr y ↦
          let at = among_all (λ from. flat_map (between_names S from) (others (ports S) from))
          (ports S) o y in
          let to = among_all (between_names S at.0) (others (ports S) at.0) o at.2 in
          between_named at.0 to.0 (queue S at.0 to.0) refl to.2
    ]
    | inr x ↦ let at = among_all (told_at S) (snapshot S).nodes o x in told_named at.0 at.1 at.2
  ]
