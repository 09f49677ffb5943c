use Rattle.do_store.proofs.table.Table.add.Goals as goal
use Rattle.std.proofs.Common.{◌+◌, ◌<◌, refl, arith, ap}
use Rattle.slab.specs.Slab.{get}
use Rattle.do_store.{specs.Listing.pair_serial, proofs.Listed.{rising-snoc, listed-added}}

pub invariant_of-self : goal.invariant_of-self
invariant_of-self c =
    let spare : 0 < c.self.inside.spare =
    omega (arith, ap (λ s. s.spare) c.self.view_is, c.requires.room) in
    record {
      rising = rw c.push_pair.ensures.items
          (rising-snoc pair_serial 0 c.self.inside.next
          (c.self.inside.next + 1) c.self.inside.pairs.items
          (record { serial = c.self.inside.next; key = c.insert_reserved-key.result })
          c.self.invariant.rising (omega arith) (omega arith));
      slot_room = omega (
        arith,
        c.insert_reserved-key.ensures.len,
        c.insert_reserved-key.ensures.capacity,
        c.self.invariant.slot_room,
      );
      pair_room = omega (
        arith,
        c.push_pair.ensures.len,
        c.push_pair.ensures.capacity,
        c.self.invariant.pair_room,
      );
    }

pub returns-clause-objects : goal.returns-clause-objects
returns-clause-objects c =
    let u = c.insert_reserved-key.ensures.updates in
    rw (c.push_pair.ensures.items, ← c.self.view_is)
    (listed-added (get c.self.inside.slots) (get c.insert_reserved-key.new.self)
    c.self.inside.pairs.items c.self.inside.next c.insert_reserved-key.result _
    c.self.invariant.rising c.insert_reserved-key.ensures.was_vacant u.changed refl u.others)
