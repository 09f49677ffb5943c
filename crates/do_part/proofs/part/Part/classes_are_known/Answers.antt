use Rattle.do_part.proofs.part.Part.classes_are_known.Goals as goal
use Rattle.std.proofs.Common.{refl}
use Rattle.do_part.{specs.Seen.own_of, proofs.HeldRows.known_is}

-- a class is kept just of what is held or asked for
pub returns : goal.returns
returns c = rw (← c.self.view_is) (λ o.
    known_is (own_of c.self.inside).node c.self.inside.holders.imports.received
    c.self.inside.holders.imports.asked c.self.inside.holders.imports.asks
    c.self.inside.holders.imports.classes refl refl
    c.counts_are_tied.ensures.tied.known c.counts_are_tied.ensures.tied.counts (o.node, o.serial))
