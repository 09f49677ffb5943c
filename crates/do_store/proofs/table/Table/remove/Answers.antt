use Rattle.do_store.proofs.table.Table.remove.Goals as goal
use Rattle.std.proofs.Common.{◌≡◌, ◌+◌, ◌≤◌, [], Option, Some, None, arith, ap, sym, ◌∙◌, OnSome}
use Rattle.std.proofs.Common.{IfNone}
use Rattle.slab.specs.Slab.{get, Slab, slab_len}
use Rattle.do_store.specs.{Listing.{pair_serial, listed, is_live}, declared.object.Object.Object}
use Rattle.do_store.proofs.Closed.{listed-filter, rising-filter}
use Rattle.do_store.proofs.FoundKey.{FoundAt, stored-at_key, edited-none}
use Rattle.do_store.proofs.Listed.{listed-edited, edit-absent}

pub returns-in_err-key-clause-objects : goal.returns-in_err-key-clause-objects
returns-in_err-key-clause-objects c =
    let none = c.in_err-key.ensures c.self.inside.next c.self.invariant.rising in
    rw (← c.self.view_is)
    (sym (edit-absent c.args.serial (λ o. [])
    (listed (get c.self.inside.slots) c.self.inside.pairs.items) none))

removed_len : (old new : Slab Object) (r : Option Object)
    → OnSome r (slab_len new + 1 ≡ slab_len old) → IfNone r (new ≡ old)
    → slab_len new ≤ slab_len old
removed_len old new None some none = let e = ap (λ (s : Slab Object). slab_len s) none in
    omega arith
removed_len old new (Some o) some none = omega (arith, some)

pub returns-then-pairs-len-clause-objects : goal.returns-then-pairs-len-clause-objects
returns-then-pairs-len-clause-objects c =
    let fact = c.in_ok-key.ensures c.self.inside.next c.self.invariant.rising in
    let f : FoundAt (get c.self.inside.slots) c.self.inside.pairs.items c.args.serial
    c.in_ok-key.key =
    record { member = fact.0; object = fact.1; found = fact.2; same = fact.3 } in
    rw (← c.self.view_is)
    (listed-edited _ _ c.self.inside.next c.self.inside.pairs.items c.args.serial
    c.in_ok-key.key f.object (λ o. []) c.self.invariant.rising
    (edited-none (get c.self.inside.slots) (get c.try_remove-object.new.self)
    c.self.inside.pairs.items c.args.serial c.in_ok-key.key f
    c.try_remove-object.ensures.updates.changed c.try_remove-object.ensures.updates.others))

pub returns-then-pairs-len-clause-taken : goal.returns-then-pairs-len-clause-taken
returns-then-pairs-len-clause-taken c =
    let fact = c.in_ok-key.ensures c.self.inside.next c.self.invariant.rising in
    let f : FoundAt (get c.self.inside.slots) c.self.inside.pairs.items c.args.serial
    c.in_ok-key.key =
    record { member = fact.0; object = fact.1; found = fact.2; same = fact.3 } in
    rw (← c.self.view_is) (c.try_remove-object.ensures.value
    ∙ sym (stored-at_key (get c.self.inside.slots) c.self.inside.next c.self.inside.pairs.items
    c.args.serial c.in_ok-key.key c.self.invariant.rising f))

pub returns-clause-objects : goal.returns-clause-objects
returns-clause-objects c =
    let fact = c.in_ok-key.ensures c.self.inside.next c.self.invariant.rising in
    let f : FoundAt (get c.self.inside.slots) c.self.inside.pairs.items c.args.serial
    c.in_ok-key.key =
    record { member = fact.0; object = fact.1; found = fact.2; same = fact.3 } in
    rw (c.close_up.ensures.items, ← c.self.view_is)
    (listed-filter (get c.try_remove-object.new.self) c.self.inside.pairs.items
    ∙ listed-edited _ _ c.self.inside.next c.self.inside.pairs.items c.args.serial
    c.in_ok-key.key f.object (λ o. []) c.self.invariant.rising
    (edited-none (get c.self.inside.slots) (get c.try_remove-object.new.self)
    c.self.inside.pairs.items c.args.serial c.in_ok-key.key f
    c.try_remove-object.ensures.updates.changed c.try_remove-object.ensures.updates.others))

pub returns-clause-taken : goal.returns-clause-taken
returns-clause-taken c =
    let fact = c.in_ok-key.ensures c.self.inside.next c.self.invariant.rising in
    let f : FoundAt (get c.self.inside.slots) c.self.inside.pairs.items c.args.serial
    c.in_ok-key.key =
    record { member = fact.0; object = fact.1; found = fact.2; same = fact.3 } in
    rw (← c.self.view_is) (c.try_remove-object.ensures.value
    ∙ sym (stored-at_key (get c.self.inside.slots) c.self.inside.next c.self.inside.pairs.items
    c.args.serial c.in_ok-key.key c.self.invariant.rising f))

pub invariant_of-self-2 : goal.invariant_of-self-2
invariant_of-self-2 c = record {
  rising = rw c.close_up.ensures.items
      (rising-filter pair_serial (is_live (get c.try_remove-object.new.self)) 0 c.self.inside.next
      c.self.inside.pairs.items c.self.invariant.rising);
  slot_room = omega (
    arith,
    c.self.invariant.slot_room,
    c.try_remove-object.ensures.capacity,
    removed_len c.self.inside.slots c.try_remove-object.new.self c.try_remove-object.result
        c.try_remove-object.ensures.len c.try_remove-object.ensures.absent,
  );
  pair_room = omega
      (arith, c.self.invariant.pair_room, c.close_up.ensures.len, c.close_up.ensures.capacity);
}
