use Rattle.site_calls.proofs.parts.store.may.may_be_named.Goals as goal
use Rattle.std.proofs.Common.{◌∙◌, ap, sym, arith, refl}
use Rattle.do_base.specs.names.Names.{ObjectName}
use Rattle.site_calls.proofs.MayName.{foreign_may, stored_may}

pub returns-then-home-port : goal.returns-then-home-port
returns-then-home-port c = λ yes.
    foreign_may c.args.store.now c.args.oid
    (λ e. c.if-home-port.true (c.port-home.ensures.value
    ∙ ap (λ (o : ObjectName). o.node) c.oid.view_is ∙ e ∙ c.requires ∙ sym c.port.ensures.value))

pub returns : goal.returns
returns c = λ yes.
    let home = c.is_stored.ensures.home yes in
    let stored = c.is_stored.ensures.stored yes in
    let count = c.names.ensures.own home in
    stored_may c.args.store.now c.args.oid home (rw stored.1 refl)
    (omega (arith, c.if-names.false, c.names.type_inv, count))
