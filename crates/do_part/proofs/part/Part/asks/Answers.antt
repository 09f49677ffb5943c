use Rattle.do_part.proofs.part.Part.asks.Goals as goal
use Rattle.std.proofs.Common.{◌∙◌, sym}
use Rattle.do_part.proofs.LinkRows.{asked_len}

-- the asks that are kept are the ones that the node sees
pub returns : goal.returns
returns c = rw (← c.self.view_is) (c.all_asks.ensures
    ∙ sym (asked_len c.self.inside.holders.imports.asks))
