use Rattle.do_class.proofs.table.ClassTable.add_class.Goals as goal
use Rattle.std.proofs.Common.{◌<◌, ◌≤◌, length, arith, sym, subst, ◌∙◌}
use Rattle.do_class.proofs.Tables.{IsIndexedTable-added}

pub invariant_of-self-2 : goal.invariant_of-self-2
invariant_of-self-2 c =
    let room : length c.self.inside.classes < 256 =
    subst (λ classes. length classes < 256) (sym c.self.view_is) c.requires.room in
    let few_slots : length c.args.slots ≤ 16 = omega (arith, c.len.ensures) in
    IsIndexedTable-added c.self.inside.classes c.append.new.classes (record {
      name = c.args.name;
      slots = c.args.slots;
      methods = c.args.methods;
    }) c.in_ok-added.added c.in_ok-key.key
    c.self.inside.places c.append.new.places c.in_ok-append.ensures.added c.in_ok-added.ensures
    c.in_ok-key.ensures.cases c.self.invariant room
    (record { slots = few_slots; methods = c.requires.methods }) (sym c.contains_key.ensures
    ∙ c.if-contains_key.false) c.in_ok-append.ensures.placed
