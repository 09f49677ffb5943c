-- The entries of a state, as a net of links shows them.
use Rattle.do_machine.specs.declared.item.Item.TheVariants as items
use Rattle.std.proofs.Common.{◌≡◌, ◌==◌, ◌+◌, ◌&&◌, ◌||◌, ℕ, Bool, true, false, List, [], ◌∷◌, map}
use Rattle.std.{proofs.Common.{refl, ap, ◌∙◌, arith}, specs.Prelude.{None, Option, Some, nat_lt}}
use Rattle.std.{specs.List.{flat_map, list_any}, proofs.lemmas.Bool.Decides.nat_tests}
use Rattle.do_class.specs.declared.packet.Name.{Name, TheVariants.{Lent, Mine, Yours}}
use Rattle.do_packet.specs.Met.{has_object}
use Rattle.do_machine.specs.declared.{item.Item.Item, node.Node.Node, state.State.State}
use Rattle.do_machine.specs.{Entry.{has_entry, is_holder}, Items.{Released, exported, is_exported}}
use Rattle.do_machine.specs.Items.{is_released, name_naming, named_as, naming, released}
use Rattle.do_machine.specs.{Lists.some_passes, Objects.object_at, State.{is_open, node, queue}}
use Rattle.do_facts.specs.{Net.total, View.{net_of, part_seen, wire_seen}, links.Facts.open_in}
use Rattle.do_facts.specs.links.{Links.{Atom, Links, atoms, links, name_atoms}, Moves.opens}
use Rattle.do_facts.proofs.{Notes.total-append, SumsOfLists.number_if}
use Rattle.do_facts.proofs.links.EntriesKept.{export_of, holds_in, in_use, release_of}

module _ (test : Item → Bool) (f : Atom → ℕ)
    (same : (item : Item) → test item ≡ nat_lt 0 (total f (atoms item))) where
  -- a test that is passed by what counts is passed by one of items where these count
  items_same : (queued : List Item) →
      list_any test queued ≡ nat_lt 0 (total f (flat_map atoms queued))
  items_same [] = refl
  items_same (item ∷ queued) =
      let more = flat_map atoms queued in
      grind (arith, nat_tests, total-append f (atoms item) more, same item, items_same queued)

  -- and so in a queue, if there is one
  pub queue_same : (found : Option (List Item)) →
      some_passes (list_any test) found ≡ nat_lt 0 (total f (wire_seen links found))
  queue_same None = refl
  queue_same (Some queued) = items_same queued

module _ (a m s : ℕ) where
  -- the names of a message export as often as its atoms
  names_export : (ns : List Name) →
      has_object (named_as is_exported (map (name_naming a m) ns)) (object_at a s)
      ≡ nat_lt 0 (total (export_of s) (flat_map name_atoms ns))
  names_export [] = refl
  names_export (Mine t class ∷ ns) = grind (arith, nat_tests, names_export ns)
  names_export (Yours t ∷ ns) = grind (arith, nat_tests, names_export ns)
  names_export (Lent o class t ∷ ns) = grind (arith, nat_tests, names_export ns)

  -- and release nothing
  names_release : (ns : List Name) →
      has_object (named_as is_released (map (name_naming m a) ns)) (object_at a s)
      ≡ nat_lt 0 (total (release_of s) (flat_map name_atoms ns))
  names_release [] = refl
  names_release (Mine t class ∷ ns) = grind (arith, nat_tests, names_release ns)
  names_release (Yours t ∷ ns) = grind (arith, nat_tests, names_release ns)
  names_release (Lent o class t ∷ ns) = grind (arith, nat_tests, names_release ns)

  -- an end releases what it names
  end_releases : (ss : List ℕ) →
      has_object (named_as is_released (map (naming Released a) ss)) (object_at a s)
      ≡ list_any (λ t. s == t) ss
  end_releases [] = refl
  end_releases (t ∷ ss) = grind (arith, nat_tests, end_releases ss)

  -- and exports nothing
  end_exports : (ss : List ℕ) →
      has_object (named_as is_exported (map (naming Released m) ss)) (object_at a s) ≡ false
  end_exports [] = refl
  end_exports (t ∷ ss) = end_exports ss

  -- an item exports as often as its atoms
  item_exports : (item : Item) → has_object (exported a m item) (object_at a s)
      ≡ nat_lt 0 (total (export_of s) (atoms item))
  item_exports (items.Call number x) = grind (arith, nat_tests, names_export x.packet.names)
  item_exports (items.Oneway x) = grind (arith, nat_tests, names_export x.packet.names)
  item_exports (items.Reply number packet) = names_export packet.names
  item_exports (items.RootAnswer number packet) = names_export packet.names
  item_exports (items.Granted t k) = grind (arith, nat_tests)
  item_exports (items.End ss) = grind (arith, nat_tests, end_exports ss)
  item_exports _ = refl

  -- and releases as often
  item_releases : (item : Item) → has_object (released m a item) (object_at a s)
      ≡ nat_lt 0 (total (release_of s) (atoms item))
  item_releases (items.Call number x) = grind (arith, nat_tests, names_release x.packet.names)
  item_releases (items.Oneway x) = grind (arith, nat_tests, names_release x.packet.names)
  item_releases (items.Reply number packet) = names_release packet.names
  item_releases (items.RootAnswer number packet) = names_release packet.names
  item_releases (items.Left t) = grind (arith, nat_tests)
  item_releases (items.End ss) = grind (arith, nat_tests, end_releases ss)
  item_releases _ = refl

  module _ (S : State) where
    -- the net
    abbrev parts : Option Node → Links
    parts found = part_seen links found

    -- the home's end
    reached_same : (found : Option Node) →
        some_passes (λ n. is_open n m) found ≡ opens (parts found) m
    reached_same None = refl
    reached_same (Some n) = refl

    -- a holder
    held_same : (found : Option Node) → some_passes (is_holder (object_at a s)) found
        ≡ (opens (parts found) a && has_object (parts found).held (object_at a s))
    held_same None = refl
    held_same (Some n) = refl

    -- 0 is below a sum where it is below one of its parts
    below_sum : (b : Bool) (x y : ℕ) →
        ((b || nat_lt 0 x) || nat_lt 0 y) ≡ nat_lt 0 (number_if b + x + y)
    below_sum true x y = grind (arith, nat_tests)
    below_sum false x y = grind (arith, nat_tests)

    -- an entry is an object in use over an open end
    pub entry_same : has_entry S m (object_at a s)
        ≡ (open_in (net_of links S) a m && nat_lt 0 (in_use (net_of links S) a m s))
    entry_same =
        let o = object_at a s in
        let out = λ (item : Item). has_object (exported a m item) o in
        let back = λ (item : Item). has_object (released m a item) o in
        let held = holds_in (net_of links S) a m s in
        let away = total (export_of s) (wire_seen links (queue S a m)) in
        let home = total (release_of s) (wire_seen links (queue S m a)) in
        ap (λ b. b && ((some_passes (is_holder o) (node S m)
        || some_passes (list_any out) (queue S a m)) || some_passes (list_any back) (queue S m a)))
        (reached_same (node S a))
        ∙ ap (λ b. open_in (net_of links S) a m && ((b || some_passes (list_any out) (queue S a m))
        || some_passes (list_any back) (queue S m a))) (held_same (node S m))
        ∙ ap (λ b. open_in (net_of links S) a m && ((held || b)
        || some_passes (list_any back) (queue S m a)))
        (queue_same out (export_of s) item_exports (queue S a m))
        ∙ ap (λ b. open_in (net_of links S) a m && ((held || nat_lt 0 away) || b))
        (queue_same back (release_of s) item_releases (queue S m a))
        ∙ ap (λ b. open_in (net_of links S) a m && b) (below_sum held away home)
