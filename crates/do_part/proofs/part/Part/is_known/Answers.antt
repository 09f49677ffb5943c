use Rattle.do_part.proofs.part.Part.is_known.Goals as goal
use Rattle.std.proofs.Common.{◌||◌, sym, ◌∙◌, ap, is_some}
use Rattle.do_part.proofs.HeldRows.{asked_known, held_has}

-- an object is known that is held or asked for
pub returns-clause-known : goal.returns-clause-known
returns-clause-known c =
    let m = c.self.inside.holders.imports in
    let o = c.args.oid.now in
    rw (← c.self.view_is) (c.is_some.ensures ∙ c.class_of.ensures.known
    ∙ λ j. sym (held_has m.received (o.node, o.serial)) j
    || sym (asked_known m.asked m.asks c.asks-asks.ensures.counted (o.node, o.serial)) j)

-- whose class is kept then
pub returns-clause-class : goal.returns-clause-class
returns-clause-class c =
    rw (← c.self.view_is) (c.is_some.ensures ∙ ap is_some c.class_of.ensures.class)
