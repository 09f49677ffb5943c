use Rattle.do_store.proofs.table.Table.set_counts.Goals as goal
use Rattle.std.proofs.Common.{List, [], ◌∷◌, refl, sym}
use Rattle.slab.specs.Slab.{get}
use Rattle.do_store.specs.{Listing.listed, declared.object.Object.Object}
use Rattle.do_store.proofs.{FoundKey.{FoundAt, edited-some}, Listed.{listed-edited, edit-absent}}

pub returns-in_default-clause-objects : goal.returns-in_default-clause-objects
returns-in_default-clause-objects c =
    let none = c.in_default.ensures c.self.inside.next c.self.invariant.rising in
    rw (← c.self.view_is)
    (sym (edit-absent c.args.serial
    (λ (o : Object). record o {
      held = c.args.held;
      named = c.args.named;
      waiting =
          c.args.waiting;
    } ∷ []) (listed (get c.self.inside.slots) c.self.inside.pairs.items) none))

pub returns-clause-objects : goal.returns-clause-objects
returns-clause-objects c =
    let fact = c.in-Some.ensures c.self.inside.next c.self.invariant.rising in
    let f : FoundAt (get c.self.inside.slots) c.self.inside.pairs.items c.args.serial
    c.in-Some.key =
    record { member = fact.0; object = fact.1; found = fact.2; same = fact.3 } in
    let by : Object → List Object =
    λ (o : Object). record o {
      held = c.args.held;
      named = c.args.named;
      waiting =
          c.args.waiting;
    } ∷ [] in
    let u = c.write_counts.ensures.counts f.object f.found in
    rw (← c.self.view_is)
    (listed-edited _ _ c.self.inside.next c.self.inside.pairs.items c.args.serial c.in-Some.key
    f.object by c.self.invariant.rising
    (edited-some (get c.self.inside.slots) (get c.write_counts.new.slots) c.self.inside.pairs.items
    c.args.serial c.in-Some.key f _ by u.changed f.same refl u.others))
