use Rattle.do_site.proofs.opening.set_root.Goals as goal
use Rattle.std.proofs.Common.{[], ◌∷◌, ◌∙◌, ap, subst, sym, ℕ}
use Rattle.do_base.specs.{names.Names.ObjectName, declared.values.value.Value.TheVariants.Obj}
use Rattle.do_machine.specs.{Objects.object_at, run.Fresh.with_objects}
use Rattle.do_network.specs.Own.{Own}
use Rattle.do_packet.specs.declared.receipt.Made.{Made}
use Rattle.do_part.specs.Names.{AreStored, value_of, values_of}
use Rattle.do_site.proofs.{OpenedSites.root_stored, Stored.there_stored}

pub create-oid-requires-clause-stored : goal.create-oid-requires-clause-stored
create-oid-requires-clause-stored c =
    let n = c.args.part.now.own.node in
    subst (λ (p : Own). AreStored p.node (values_of c.in_ok-root.root.slots))
    (sym c.reserve.ensures.own)
    (subst (λ vs. AreStored n (values_of vs)) c.as_slice.ensures
    (there_stored n (values_of c.as_slice.result.now) c.in-Some.ensures.there))

-- the object that was created last is the root
pub set_root-requires-clause-stored : goal.set_root-requires-clause-stored
set_root-requires-clause-stored c =
    let n = c.reserve.new.self.own.node in
    let root : Made = record { class = c.args.class; slots = c.in_ok-root.root.slots } in
    let next = ap (λ (o : ObjectName). o.serial) (c.oid.view_is ∙ c.create-oid.ensures.oid) in
    subst (λ (p : Own). AreStored p.node
    (value_of (Obj (object_at p.node.port c.oid.inside.serial)))) (sym c.create-oid.ensures.own)
    (subst (λ (serial : ℕ). AreStored (with_objects (root ∷ []) n)
    (value_of (Obj (object_at n.port serial)))) (sym next) (root_stored n root))
