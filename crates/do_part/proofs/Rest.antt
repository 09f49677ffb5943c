-- What a part has, where counts of names have changed.
use Rattle.std.specs.FinMap as map
use Rattle.std.proofs.Common.{◌≡◌, ℕ, ◌+◌, ◌-◌, ◌^◌, List, map as each, sym, ap, ◌∙◌, arith}
use Rattle.std.specs.Prelude.{min}
use Rattle.do_base.specs.names.Names.{ObjectName}
use Rattle.do_behave.specs.declared.invocation.Invocation.{Invocation}
use Rattle.do_export.specs.Counts.{count_of}
use Rattle.do_import.specs.{ByObject.object_of, Imported.Imported}
use Rattle.do_machine.specs.{Lists.all_inserted, lend.Asking.wanted_lt}
use Rattle.do_stack.specs.Stacked.{Stacked}
use Rattle.do_part.specs.{Holding.{plain, HasCome, HasGone}, Names.{heap_of, stack_of}}
use Rattle.do_part.specs.{Seen.{own_of, lend_of, lend_lt, ask_of}, Sound.uses}
use Rattle.do_part.specs.declared.{holders.Holders.Holders, part.Part.TheInside.Inside}

-- the node and all numbers are the same, and what is held of other nodes but for the uses
pub record SameNumbers (a b : Holders) : Type 0 where
  pub node : b.node ≡ a.node
  pub next : b.store.next ≡ a.store.next
  pub spare : b.store.spare ≡ a.store.spare
  pub imports : b.imports ≡ record a.imports { uses = b.imports.uses; spare = b.imports.spare }

-- where names came, they are
pub numbers_came : (a b : Holders) (d : ObjectName → ℕ) (size : ℕ) → HasCome a b d size
    → SameNumbers a b
numbers_came a b d size x = record {
  node = x.came.node;
  next = x.came.next;
  spare = x.came.spare;
  imports = x.came.imports;
}

-- so they are where names went
pub numbers_gone : (a b : Holders) (d : ObjectName → ℕ) → HasGone a b d → SameNumbers a b
numbers_gone a b d x = record {
  node = sym x.went.node;
  next = sym x.went.next;
  spare = sym x.went.spare;
  imports = ap (λ (i : Imported). record i { uses = b.imports.uses; spare = b.imports.spare })
      (sym x.went.imports);
}

-- and after two steps that keep them
pub numbers_then : (a b c : Holders) → SameNumbers a b → SameNumbers b c → SameNumbers a c
numbers_then a b c first second = record {
  node = second.node ∙ first.node;
  next = second.next ∙ first.next;
  spare = second.spare ∙ first.spare;
  imports = second.imports
      ∙ ap (λ (i : Imported). record i { uses = c.imports.uses; spare = c.imports.spare })
      first.imports;
}

-- then the room for objects is the same
pub room_kept : (a b : Holders) → SameNumbers a b
    → min b.store.spare (2 ^ 63 - b.store.next) ≡ min a.store.spare (2 ^ 63 - a.store.next)
room_kept a b s = λ j. min (s.spare j) (2 ^ 63 - s.next j)

-- and so is the room for entries
pub entries_kept : (spare : ℕ) (a b : Holders) → SameNumbers a b
    → min spare b.imports.links ≡ min spare a.imports.links
entries_kept spare a b s = λ j. min spare (s.imports j).links

-- lends and asks name the same
pub named_kept : (a b : Holders) → SameNumbers a b → (o : ObjectName)
    → count_of b.imports.named o.node o.serial ≡ count_of a.imports.named o.node o.serial
named_kept a b s o = ap (λ (i : Imported). count_of i.named o.node o.serial) s.imports

-- and what the part has from the holders is the same but for the heap
pub own_moved : (i j : Inside) → SameNumbers i.holders j.holders
    → own_of j ≡ record (own_of i) {
      node = record (own_of i).node {
        heap = each plain j.holders.store.objects;
        root = j.root;
        stack = j.stack.invocations;
        next_call = j.next_call;
        open_to = j.ends;
        late = j.stack.late;
      };
      counts = j.exports.counts;
    }
own_moved i j s = λ k. record {
  node = record {
    port = s.node k;
    heap = each plain j.holders.store.objects;
    root = j.root;
    stack = j.stack.invocations;
    next_serial = s.next k;
    next_call = j.next_call;
    next_token = (s.imports k).next;
    open_to = j.ends;
    held = each object_of (map.keys (s.imports k).received);
    lent = all_inserted lend_lt (each lend_of (map.entries (s.imports k).lends));
    asked = all_inserted wanted_lt (each ask_of (map.entries (s.imports k).asks));
    late = j.stack.late;
  };
  counts = j.exports.counts;
  received = (s.imports k).received;
  classes = (s.imports k).classes;
}

-- the objects are the same, but for their holders, where names came and others went
pub heap_kept : (a b c : Holders) (d e : ObjectName → ℕ) (size : ℕ) → HasCome a b d size
    → HasGone b c e → each plain c.store.objects ≡ each plain a.store.objects
heap_kept a b c d e size x y = sym y.went.heap ∙ x.came.heap

-- where names came and others went, all is the same
pub numbers_turned : (a b c : Holders) (d e : ObjectName → ℕ) (size : ℕ) → HasCome a b d size
    → HasGone b c e → SameNumbers a c
numbers_turned a b c d e size x y =
    numbers_then a b c (numbers_came a b d size x) (numbers_gone b c e y)

-- then a part uses what it used, but for its invocations
pub uses_kept : (i j : Inside) → SameNumbers i.holders j.holders
    → each plain j.holders.store.objects ≡ each plain i.holders.store.objects → (o : ObjectName)
    → uses j o + stack_of i.stack.invocations o ≡ uses i o + stack_of j.stack.invocations o
uses_kept i j s heap o =
    let h = ap (λ l. heap_of l o) heap in
    let g = named_kept i.holders j.holders s o in
    omega arith

-- and the part has what it had, with its invocations
pub own_stack : (i : Inside) (b : Holders) (k : Stacked) (stack : List Invocation)
    → SameNumbers i.holders b
    → each plain b.store.objects ≡ each plain i.holders.store.objects → k.invocations ≡ stack
    → k.late ≡ i.stack.late
    → own_of (record i { holders = b; stack = k })
    ≡ record (own_of i) { node = record (own_of i).node { stack = stack } }
own_stack i b k stack s heap is late = own_moved i (record i { holders = b; stack = k }) s
    ∙ λ j. record (own_of i) {
      node = record (own_of i).node { heap = heap j; stack = is j; late = late j };
    }
