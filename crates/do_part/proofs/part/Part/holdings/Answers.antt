use Rattle.do_part.proofs.part.Part.holdings.Goals as goal
use Rattle.std.proofs.Common.{sym, ◌∙◌}
use Rattle.do_part.proofs.HeldRows.{held_len}

-- as many objects are held as were received
pub returns : goal.returns
returns c =
    rw (← c.self.view_is)
    (c.len.ensures.many ∙ sym (held_len c.self.inside.holders.imports.received))
