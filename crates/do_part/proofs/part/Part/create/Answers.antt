use Rattle.do_part.proofs.part.Part.create.Goals as goal
use Rattle.std.proofs.Common.{refl}
use Rattle.do_part.{specs.Names.{values_of, sizes_of}, proofs.Bounds.values-le}
use Rattle.do_part.proofs.Writes.{slots_come, slots_stored, slots_bound, sound_created}

-- the names in the slots can be counted
pub tally_values-requires : goal.tally_values-requires
tally_values-requires c = record {
  names = slots_come c.self.inside c.self.invariant _ c.self.view_is (values_of c.args.slots)
      (sizes_of c.args.slots) c.requires.stored (λ o. values-le o c.args.slots) c.requires.names;
}

-- each own object that the slots name is stored
pub create-requires-clause-stored : goal.create-requires-clause-stored
create-requires-clause-stored c =
    slots_stored c.self.inside c.self.invariant _ c.self.view_is (values_of c.args.slots)
    (sizes_of c.args.slots) c.requires.stored (λ o. values-le o c.args.slots) c.requires.names
    c.tally_values.new.self c.tally_values.ensures

-- no own object is named too often by slots
pub create-requires-clause-bound : goal.create-requires-clause-bound
create-requires-clause-bound c =
    slots_bound c.self.inside c.self.invariant _ c.self.view_is (values_of c.args.slots)
    (sizes_of c.args.slots) c.requires.stored (λ o. values-le o c.args.slots) c.requires.names
    c.tally_values.new.self c.tally_values.ensures

-- the part is sound with the object more
pub invariant_of-self : goal.invariant_of-self
invariant_of-self c =
    let b = c.tally_values.new.self in
    sound_created c.self.inside c.self.invariant _ c.self.view_is b
    (record b { store = c.create.new.self }) (record {
      serial = b.store.next;
      class = c.args.class;
      slots = c.args.slots;
      held = 0;
    }) c.requires.stored c.requires.names c.tally_values.ensures (record {
      serial = refl;
      free = refl;
      objects = c.in-Ok.ensures.objects;
      home = c.in-Ok.ensures.node;
      next = c.in-Ok.ensures.next;
      node = refl;
      imports = refl;
    }) refl
