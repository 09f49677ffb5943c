-- How a node stands to what it was: what parting, holding and leaving keep.
use Rattle.do_machine.specs.declared.item.Item.TheVariants as items
use Rattle.std.proofs.Common.{◌≡◌, ◌==◌, ◌&&◌, ℕ, true, not, List, [], ◌∷◌, filter, map, refl, ap}
use Rattle.std.proofs.{Common.{arith, subst, Bool}, lemmas.Bool.{eqb-true, Decides.nat_tests}}
use Rattle.do_base.specs.names.Names.{ObjectName}
use Rattle.do_class.specs.declared.packet.Name.{Name}
use Rattle.do_packet.specs.Met.{has_object}
use Rattle.do_machine.specs.declared.{item.Item.Item, node.Node.Node}
use Rattle.do_machine.specs.Items.{Released, exported, is_exported, name_naming, named_as, naming}
use Rattle.do_machine.specs.{State.is_open, ends.Closing.parted, held.Kept.kept}
use Rattle.do_machine.specs.held.{Leaving.{freeing, leaving}, Refers.node_objects}
use Rattle.do_machine.{specs.take.Take.holding, proofs.Having.{has_passing, has_joined_all}}
use Rattle.do_facts.specs.{laws.Follows.{Follows, Grows, HoldsOpen}, links.Links.links_of}
use Rattle.do_facts.proofs.links.{ListsChanged.{open_less, was_open}, HeldChanged.held_apart}

-- one step after another grows
pub grow_after : (n m k : Node) → Grows n m → Grows m k → Grows n k
grow_after n m k a b = grind arith

-- one step after another follows
pub after : (n m k : Node) → Follows n m → Follows m k → Follows n k
after n m k a b = grind (arith, grow_after n m k)

-- a node with the same numbers, which holds so over ends that were open
grows_by : (n m : Node) → m.port ≡ n.port → m.next_serial ≡ n.next_serial →
    m.next_call ≡ n.next_call → m.next_token ≡ n.next_token →
    ((peer : ℕ) → is_open m peer ≡ true → is_open n peer ≡ true) →
    (HoldsOpen n → HoldsOpen m) → Grows n m
grows_by n m port serial call token ends holding = grind arith

-- ---- a node parts from a peer

-- it holds nothing of the peer, and forgets late calls
pub by_parted : (peer : ℕ) (n : Node) → Follows n (parted peer n)
by_parted peer n = record {
  grows = grows_by n (parted peer n) refl refl refl refl (was_open (links_of n) peer)
      (λ h. record {
        reached = λ o q.
            let ends = open_less o.node peer n.open_to in
            let held = held_apart o.node o.serial peer n.held in
            grind (arith, nat_tests, q, ends, held, h.reached o);
      });
  late = λ h. ap (filter (λ c. not (c.peer == peer))) h;
}

-- ---- a node holds what an item exports, which is the sender's

module _ (from to other : ℕ) (o : ObjectName) where
  -- by the names of a message
  names_export : (ns : List Name) →
      has_object (named_as is_exported (map (name_naming from to) ns)) o
      ≡ ((from == o.node) && has_object (named_as is_exported (map (name_naming from other) ns)) o)
  names_export [] = grind arith
  names_export (name ∷ ns) = grind (arith, nat_tests, names_export ns)

  -- by an end
  end_exports : (serials : List ℕ) →
      has_object (named_as is_exported (map (naming Released to) serials)) o
      ≡ ((from == o.node)
      && has_object (named_as is_exported (map (naming Released other) serials)) o)
  end_exports [] = grind arith
  end_exports (s ∷ serials) = end_exports serials

  -- what an item exports is its sender's, whoever takes it
  pub exported_at : (item : Item) → has_object (exported from to item) o
      ≡ ((from == o.node) && has_object (exported from other item) o)
  exported_at (items.Call number m) = names_export m.packet.names
  exported_at (items.Oneway m) = names_export m.packet.names
  exported_at (items.Reply number packet) = names_export packet.names
  exported_at (items.RootAnswer number packet) = names_export packet.names
  exported_at (items.Granted serial token) = grind (arith, nat_tests)
  exported_at (items.End serials) = end_exports serials
  exported_at _ = grind arith

-- an end that is open towards the home of an object is so by any name of the home
pub open_at : (n : Node) (from home : ℕ) → is_open n from ≡ true → (from == home) ≡ true →
    is_open n home ≡ true
open_at n from home ends same = subst (λ k. is_open n k ≡ true) (eqb-true from home same) ends

-- a node that holds it, over an open end
pub by_holding : (from : ℕ) (item : Item) (n : Node) → is_open n from ≡ true →
    Follows n (holding (exported from n.port item) n)
by_holding from item n ends = record {
  grows = grows_by n (holding (exported from n.port item) n) refl refl refl refl (λ k h. h)
      (λ h. record {
        reached = λ o q.
            let all = has_joined_all n.held (exported from n.port item) o in
            let own = exported_at from n.port n.port o item in
            grind (arith, q, all, own, open_at n from o.node ends, h.reached o);
      });
  late = λ h. h;
}

-- ---- what follows a step

-- a node that leaves what it does without
pub by_leaving : (entry : ℕ → ℕ → Bool) (n : Node) → Follows n (leaving entry n).node
by_leaving entry n =
    let test = has_object (node_objects (freeing (kept entry n) n).node) in
    record {
      grows = grows_by n (leaving entry n).node refl refl refl refl (λ k h. h)
          (λ h. record { reached = λ o q. h.reached o (has_passing test n.held o q) });
      late = λ h. h;
    }
