-- What an item on its way exports or releases is among what it names.
use Rattle.do_machine.specs.declared.item.Item.TheVariants as items
use Rattle.std.proofs.Common.{◌≡◌, ◌∙◌, ◌||◌, ℕ, Bool, true, false, cond, List, [], ◌∷◌, map, refl}
use Rattle.std.{proofs.Common.{sym, ap, inl, inr}, specs.List.filter}
use Rattle.do_base.specs.names.Names.{ObjectName}
use Rattle.do_lost.specs.Named.{item_names}
use Rattle.do_machine.specs.{declared.item.Item.Item, Items.{Naming, Released, Role, exported}}
use Rattle.do_machine.specs.Items.{is_exported, is_released, named_as, names, naming, released}
use Rattle.do_machine.{specs.Objects.object_at, proofs.Bools.{or_cases, or_left, or_right}}
use Rattle.do_packet.specs.Met.{has_object, same_object}

-- what is named in some roles is among all that is named
among_names : (test : Role → Bool) (ns : List Naming) (o : ObjectName) →
    has_object (named_as test ns) o ≡ true → has_object (map (λ x. x.object) ns) o ≡ true
among_names test [] o h = h
among_names test (n ∷ ns) o h = go (test n.role) (among_names test ns o) h
  where
    go : (b : Bool) → (has_object (named_as test ns) o ≡ true →
        has_object (map (λ x. x.object) ns) o ≡ true) →
        has_object (map (λ x. x.object)
        (cond b (n ∷ filter (λ x. test x.role) ns) (filter (λ x. test x.role) ns))) o ≡ true →
        (same_object o n.object || has_object (map (λ x. x.object) ns) o) ≡ true
    go true k q = elim (or_cases (same_object o n.object) (has_object (named_as test ns) o) q) [
      | inl e ↦ or_left (same_object o n.object) (has_object (map (λ x. x.object) ns) o) e
      | inr e ↦ or_right (same_object o n.object) (has_object (map (λ x. x.object) ns) o) (k e)
    ]
    go false k q = or_right (same_object o n.object) (has_object (map (λ x. x.object) ns) o) (k q)

-- an end releases what it names
end_releases : (to : ℕ) (serials : List ℕ) →
    named_as is_released (map (naming Released to) serials) ≡ map (object_at to) serials
end_releases to [] = refl
end_releases to (s ∷ serials) = ap (λ os. object_at to s ∷ os) (end_releases to serials)

-- and exports nothing
end_exports : (to : ℕ) (serials : List ℕ) →
    named_as is_exported (map (naming Released to) serials) ≡ []
end_exports to [] = refl
end_exports to (s ∷ serials) = end_exports to serials

module _ (test : Role → Bool) (from to : ℕ) (serving : Bool) (o : ObjectName)
    (ends : (serials : List ℕ) →
    has_object (named_as test (map (naming Released to) serials)) o ≡ true →
    has_object (item_names from to serving (items.End serials)) o ≡ true) where
  -- what an item names in some roles is among all that it names, where it is so for ends
  among_item : (item : Item) → has_object (named_as test (names from to item)) o ≡ true →
      has_object (item_names from to serving item) o ≡ true
  among_item (items.End serials) h = ends serials h
  among_item (items.Call number m) h = among_names test (names from to (items.Call number m)) o h
  among_item (items.Oneway m) h = among_names test (names from to (items.Oneway m)) o h
  among_item (items.Reply number packet) h =
      among_names test (names from to (items.Reply number packet)) o h
  among_item (items.RootAnswer number packet) h =
      among_names test (names from to (items.RootAnswer number packet)) o h
  among_item (items.Ask serial token) h =
      among_names test (names from to (items.Ask serial token)) o h
  among_item (items.Granted serial token) h =
      among_names test (names from to (items.Granted serial token)) o h
  among_item (items.Gone serial token) h =
      among_names test (names from to (items.Gone serial token)) o h
  among_item (items.Left serial) h = among_names test (names from to (items.Left serial)) o h
  among_item (items.Raised number exc) h = h
  among_item (items.RootAsk number) h = h
  among_item (items.Settled number) h = h

-- what an item exports
pub exported_named : (from to : ℕ) (serving : Bool) (item : Item) (o : ObjectName) →
    has_object (exported from to item) o ≡ true →
    has_object (item_names from to serving item) o ≡ true
exported_named from to serving item o =
    among_item is_exported from to serving o
    (λ serials h. absurd (no (ap (λ os. has_object os o) (end_exports to serials)) h)) item
  where
    no : {b : Bool} → b ≡ false → b ≡ true → ⊥
    no x y = cc

-- what an item releases, over an end that is open
pub released_named : (from to : ℕ) (item : Item) (o : ObjectName) →
    has_object (released from to item) o ≡ true →
    has_object (item_names from to true item) o ≡ true
released_named from to item o =
    among_item is_released from to true o
    (λ serials h. ap (λ os. has_object os o) (sym (end_releases to serials)) ∙ h) item
