-- An object of which a peer has an entry is held by the peer, or named by an item on its way.
use Rattle.std.proofs.Common.{◌≡◌, ◌||◌, ◌⊎◌, ℕ, Bool, true, List, [], ◌∷◌, Option, Some, None}
use Rattle.std.{proofs.Common.{refl, sym, subst, inl, inr}, specs.List.list_any}
use Rattle.std.proofs.lemmas.Bool.{and_parts}
use Rattle.do_base.specs.names.Names.{ObjectName}
use Rattle.do_lost.specs.Named.{item_names, named, serves}
use Rattle.do_machine.specs.{declared.{item.Item.Item, state.State.State}, Entry.has_entry}
use Rattle.do_machine.specs.Entry.{is_holder, is_on_its_way_back, is_reached, is_under_way}
use Rattle.do_machine.specs.{Items.{exported, released}, Lists.some_passes, State.{node, queue}}
use Rattle.do_machine.proofs.Bools.{or_cases, or_left, or_right}
use Rattle.do_packet.specs.Met.{has_object}
use Rattle.do_cycles.proofs.{Among.item_named, NamedInItems.{exported_named, released_named}}

-- an item passes one test where it passes the other
some_item : (f g : Item → Bool) → ((item : Item) → f item ≡ true → g item ≡ true) →
    (items : List Item) → list_any f items ≡ true → list_any g items ≡ true
some_item f g leads [] h = h
some_item f g leads (x ∷ xs) h = elim (or_cases (f x) (list_any f xs) h) [
  | inl e ↦ or_left (g x) (list_any g xs) (leads x e)
  | inr e ↦ or_right (g x) (list_any g xs) (some_item f g leads xs e)
]

module _ (S : State) (o : ObjectName) where
  -- items of which one passes a test name the object
  by_queue : (from to : ℕ) (f : Item → Bool) →
      ((item : Item) → f item ≡ true →
      has_object (item_names from to (serves S to from) item) o ≡ true) →
      (found : Option (List Item)) → queue S from to ≡ found →
      some_passes (list_any f) found ≡ true → has_object (named S) o ≡ true
  by_queue from to f leads None e h = absurd (cc)
  by_queue from to f leads (Some items) e h =
      item_named S o from to items e
      (some_item f (λ item. has_object (item_names from to (serves S to from) item) o) leads items
      h)

  -- an object of which a peer has an entry is held by the peer, or named by an item
  pub entry_held_or_named : (peer : ℕ) → has_entry S peer o ≡ true →
      (some_passes (is_holder o) (node S peer) ≡ true) ⊎ (has_object (named S) o ≡ true)
  entry_held_or_named peer h =
      let held = some_passes (is_holder o) (node S peer) in
      let out = is_under_way S peer o in
      let back = is_on_its_way_back S peer o in
      let parts = and_parts (is_reached S peer o) ((held || out) || back) h in
      elim (or_cases (held || out) back parts.1) [
        | inl x ↦ elim (or_cases held out x) [
          | inl y ↦ inl y
          | inr y ↦ inr (by_queue o.node peer (λ item. has_object (exported o.node peer item) o)
              (λ item e. exported_named o.node peer (serves S peer o.node) item o e)
              (queue S o.node peer) refl y)
        ]
        | inr x ↦ inr (by_queue peer o.node (λ item. has_object (released peer o.node item) o)
            (λ item e.
            subst (λ b. has_object (item_names peer o.node b item) o ≡ true) (sym parts.0)
            (released_named peer o.node item o e)) (queue S peer o.node) refl x)
      ]
