use Rattle.do_store.proofs.table.Table.set_slot.Goals as goal
use Rattle.std.proofs.Common.{List, [], ◌∷◌, refl, sym, ◌∙◌, set}
use Rattle.slab.specs.Slab.{get}
use Rattle.do_store.specs.{Listing.listed, declared.object.Object.Object}
use Rattle.do_store.proofs.FoundKey.{FoundAt, stored-at_key, edited-some}
use Rattle.do_store.proofs.Listed.{listed-edited, edit-absent}

pub returns-in_default-clause-objects : goal.returns-in_default-clause-objects
returns-in_default-clause-objects c =
    let none = c.in_default.ensures c.self.inside.next c.self.invariant.rising in
    rw (← c.self.view_is)
    (sym (edit-absent c.args.serial
    (λ (o : Object). record o { slots = set o.slots c.args.at c.args.value } ∷ [])
    (listed (get c.self.inside.slots) c.self.inside.pairs.items) none))

pub write_slot-requires-clause-within : goal.write_slot-requires-clause-within
write_slot-requires-clause-within c = λ o is.
    let fact = c.in-Some.ensures c.self.inside.next c.self.invariant.rising in
    let f : FoundAt (get c.self.inside.slots) c.self.inside.pairs.items c.args.serial
    c.in-Some.key =
    record { member = fact.0; object = fact.1; found = fact.2; same = fact.3 } in
    let stored = stored-at_key (get c.self.inside.slots) c.self.inside.next
    c.self.inside.pairs.items c.args.serial c.in-Some.key c.self.invariant.rising f in
    c.requires o (rw (← c.self.view_is) (stored ∙ is))

pub returns-clause-objects : goal.returns-clause-objects
returns-clause-objects c =
    let fact = c.in-Some.ensures c.self.inside.next c.self.invariant.rising in
    let f : FoundAt (get c.self.inside.slots) c.self.inside.pairs.items c.args.serial
    c.in-Some.key =
    record { member = fact.0; object = fact.1; found = fact.2; same = fact.3 } in
    let by : Object → List Object =
    λ (o : Object). record o { slots = set o.slots c.args.at c.args.value } ∷ [] in
    let u = c.write_slot.ensures.after f.object f.found in
    rw (← c.self.view_is)
    (listed-edited _ _ c.self.inside.next c.self.inside.pairs.items c.args.serial c.in-Some.key
    f.object by c.self.invariant.rising
    (edited-some (get c.self.inside.slots) (get c.write_slot.new.slots) c.self.inside.pairs.items
    c.args.serial c.in-Some.key f _ by u.changed f.same refl u.others))

pub returns-clause-old : goal.returns-clause-old
returns-clause-old c = λ o is.
    let fact = c.in-Some.ensures c.self.inside.next c.self.invariant.rising in
    let f : FoundAt (get c.self.inside.slots) c.self.inside.pairs.items c.args.serial
    c.in-Some.key =
    record { member = fact.0; object = fact.1; found = fact.2; same = fact.3 } in
    let stored = stored-at_key (get c.self.inside.slots) c.self.inside.next
    c.self.inside.pairs.items c.args.serial c.in-Some.key c.self.invariant.rising f in
    c.write_slot.ensures.before o (sym stored ∙ rw (← c.self.view_is) at is)
