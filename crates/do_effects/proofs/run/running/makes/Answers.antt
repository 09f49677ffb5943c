use Rattle.do_effects.proofs.run.running.makes.Goals as goal
use Rattle.std.proofs.Common.{[], ◌∷◌, sym, subst}
use Rattle.do_base.specs.{names.Names.ObjectName, declared.values.value.Value.TheVariants.Obj}
use Rattle.do_machine.specs.run.Fresh.{with_objects}
use Rattle.do_network.specs.Own.{Own}
use Rattle.do_part.specs.Names.{AreStored, values_of}
use Rattle.do_effects.proofs.Made.{made_stored}

-- an object that was made is stored
pub goes-requires-clause-stored : goal.goes-requires-clause-stored
goes-requires-clause-stored c =
    let n = c.args.part.now.own.node in
    subst (λ (p : Own). AreStored p.node (values_of (Obj c.create-made.result ∷ [])))
    (sym c.create-made.ensures.own)
    (subst (λ (o : ObjectName).
    AreStored (with_objects (record { class = c.args.class; slots = c.args.slots } ∷ []) n)
    (values_of (Obj o ∷ []))) (sym c.create-made.ensures.oid)
    (made_stored n c.args.class c.args.slots))
