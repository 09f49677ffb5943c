use Rattle.do_part.proofs.part.Part.write.Goals as goal
use Rattle.std.proofs.Common.{false, sym, refl}
use Rattle.do_part.specs.{Names.{counted, value_of, size_of}, Seen.own_of}
use Rattle.do_part.proofs.{Bounds.value-le, Slots.{no_slot, wrote_of}, Writes.slots_come}
use Rattle.do_part.proofs.Writes.{slots_stored, slots_bound, wrote_go, own_wrote, sound_wrote}

-- where there is no such slot, nothing changes
pub returns-then-not-has_slot-clause-own : goal.returns-then-not-has_slot-clause-own
returns-then-not-has_slot-clause-own c =
    let i = c.self.inside in
    let same = no_slot i.holders.store.objects c.args.serial c.args.slot c.args.value
    (c.has_slot.ensures.not c.if-not-has_slot.true) in
    rw (← c.self.view_is)
    (λ j. record (own_of i) { node = record (own_of i).node { heap = sym same j } })

-- the names in the value can be counted
pub tally_value-requires : goal.tally_value-requires
tally_value-requires c = record {
  names = slots_come c.self.inside c.self.invariant _ c.self.view_is (value_of c.args.value)
      (size_of c.args.value) c.requires.stored (λ o. value-le o c.args.value) c.requires.names;
}

-- each own object that the value names is stored
pub set_slot-old-requires-clause-stored : goal.set_slot-old-requires-clause-stored
set_slot-old-requires-clause-stored c =
    slots_stored c.self.inside c.self.invariant _ c.self.view_is (value_of c.args.value)
    (size_of c.args.value) c.requires.stored (λ o. value-le o c.args.value) c.requires.names
    c.tally_value.new.self c.tally_value.ensures

-- no own object is named too often by slots
pub set_slot-old-requires-clause-bound : goal.set_slot-old-requires-clause-bound
set_slot-old-requires-clause-bound c =
    slots_bound c.self.inside c.self.invariant _ c.self.view_is (value_of c.args.value)
    (size_of c.args.value) c.requires.stored (λ o. value-le o c.args.value) c.requires.names
    c.tally_value.new.self c.tally_value.ensures

-- the names in what the slot had are counted
pub tally_value-requires-2 : goal.tally_value-requires-2
tally_value-requires-2 c =
    let i = c.self.inside in
    let b = c.tally_value.new.self in
    let w = wrote_of i.holders b (counted false i.holders.node (value_of c.args.value))
    c.args.serial c.args.slot c.args.value c.set_slot-old.result c.set_slot-old.new.self
    (c.has_slot.ensures.there c.if-not-has_slot.false) c.tally_value.ensures.came
    c.set_slot-old.ensures.old c.set_slot-old.ensures.objects c.set_slot-old.ensures.node
    c.set_slot-old.ensures.next in
    record {
      names = wrote_go i c.self.invariant _ c.self.view_is c.args.value c.requires.stored
          c.requires.names b (record b { store = c.set_slot-old.new.self }) c.args.serial
          c.args.slot c.set_slot-old.result c.tally_value.ensures w;
    }

-- the part is sound with the slot written
pub invariant_of-self : goal.invariant_of-self
invariant_of-self c =
    let i = c.self.inside in
    let b = c.tally_value.new.self in
    let w = wrote_of i.holders b (counted false i.holders.node (value_of c.args.value))
    c.args.serial c.args.slot c.args.value c.set_slot-old.result c.set_slot-old.new.self
    (c.has_slot.ensures.there c.if-not-has_slot.false) c.tally_value.ensures.came
    c.set_slot-old.ensures.old c.set_slot-old.ensures.objects c.set_slot-old.ensures.node
    c.set_slot-old.ensures.next in
    sound_wrote i c.self.invariant _ c.self.view_is c.args.value c.requires.stored
    c.requires.names b (record b { store = c.set_slot-old.new.self }) c.args.serial c.args.slot
    c.set_slot-old.result c.tally_value.ensures w c.tally_value-2.new.self
    c.tally_value-2.ensures refl

-- the slot is written
pub returns-clause-own : goal.returns-clause-own
returns-clause-own c =
    let i = c.self.inside in
    let b = c.tally_value.new.self in
    let w = wrote_of i.holders b (counted false i.holders.node (value_of c.args.value))
    c.args.serial c.args.slot c.args.value c.set_slot-old.result c.set_slot-old.new.self
    (c.has_slot.ensures.there c.if-not-has_slot.false) c.tally_value.ensures.came
    c.set_slot-old.ensures.old c.set_slot-old.ensures.objects c.set_slot-old.ensures.node
    c.set_slot-old.ensures.next in
    rw (← c.self.view_is) (own_wrote i c.self.invariant _ c.self.view_is c.args.value
    c.requires.stored c.requires.names b (record b { store = c.set_slot-old.new.self })
    c.args.serial c.args.slot c.set_slot-old.result c.tally_value.ensures w
    c.tally_value-2.new.self c.tally_value-2.ensures refl c.set_slot-old.ensures.spare)
