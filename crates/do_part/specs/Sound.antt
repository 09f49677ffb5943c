-- What the counts of a part are: how often each object is named or held.
use Rattle.std.specs.FinMap as map
use Rattle.std.specs.Prelude.{◌≡◌, ◌≢◌, ℕ, ◌+◌, ◌<◌, ◌≤◌, Some, IsSome, cond, sum_by, length, ◌==◌}
use Rattle.std.specs.List.{IsDistinct}
use Rattle.do_base.specs.names.Names.{ObjectName}
use Rattle.do_export.specs.Counts.{IsPositive, count_of}
use Rattle.do_machine.specs.{Objects.object_at, declared.node.Node.Node, held.Kept.is_root}
use Rattle.do_store.specs.{Listing.Rising, Names.{Stored as Kept, find_stored, named_in}}
use Rattle.do_part.specs.{Holding.most_names, Linked.AreLinked, Names.{stack_of, heap_of}}
use Rattle.do_network.specs.Own.{Own}
use Rattle.do_part.specs.{Numbered.IsNumbered, Seen.own_of, declared.holders.Holders.Holders}
use Rattle.do_part.specs.declared.part.Part.TheInside.{Inside}

-- how many peers have an entry of an own object
abbrev pub entries : Own → ℕ → ℕ
entries own n =
    sum_by (λ peer. cond (map.contains_key own.counts (peer, n)) 1 0) own.node.open_to

-- how many holders an own object has beside slots: the root counts once, and so does each name in
-- an invocation and each peer that has an entry of it
abbrev pub holders : Own → ℕ → ℕ
holders own n =
    cond (is_root own.node n) 1 0 + stack_of own.node.stack (object_at own.node.port n)
    + entries own n

-- how often a node names an object in invocations and slots
abbrev pub named : Node → ObjectName → ℕ
named n o = stack_of n.stack o + heap_of n.heap o

-- the holders of own objects and the uses of foreign ones are these, what is held or named is
-- stored, and nothing is counted at 0
pub record IsBalanced (h : Holders) (holds : ℕ → ℕ) (uses : ObjectName → ℕ) : Type 0 where
  pub home : h.store.node ≡ h.node
  pub lender : h.imports.own ≡ h.node
  pub held : (n : ℕ) (o : Kept) → find_stored h.store.objects n ≡ Some o → o.held ≡ holds n
  pub there : (n : ℕ) → 0 < holds n → IsSome (find_stored h.store.objects n)
  pub closed : (n : ℕ) → 0 < named_in h.node n h.store.objects
      → IsSome (find_stored h.store.objects n)
  pub rising : Rising (λ (o : Kept). o.serial) 0 h.store.objects h.store.next
  pub used : (o : ObjectName) → o.node ≢ h.node
      → count_of h.imports.uses o.node o.serial ≡ uses o
  pub positive : IsPositive h.imports.uses

-- how often a part names an object: in invocations, slots, lends and asks
abbrev pub uses : Inside → ObjectName → ℕ
uses i o = named (own_of i).node o + count_of i.holders.imports.named o.node o.serial

-- each count of a part is what it is to be, none is too high, few ends are open, each once, and
-- calls are numbered once, and what it has with its peers is within bounds
pub record IsSound (i : Inside) : Type 0 where
  pub balanced : IsBalanced i.holders (holders (own_of i)) (uses i)
  pub few : (o : ObjectName) → uses i o ≤ i.holders.names
  pub most : i.holders.names ≤ most_names
  pub small : length i.ends ≤ 64
  pub apart : IsDistinct (λ (p q : ℕ). p == q) i.ends
  pub numbered : IsNumbered i.holders.node i.stack.invocations i.stack.late i.next_call
  pub links : AreLinked i
