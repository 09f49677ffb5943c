use Rattle.do_part.proofs.part.Part.is_asked.Goals as goal
use Rattle.std.proofs.Common.{◌∙◌, sym}
use Rattle.do_part.proofs.LinkRows.{asked_has}

-- the ask is among those that the node sees
pub returns : goal.returns
returns c = rw (← c.self.view_is) (c.has_ask.ensures
    ∙ sym (asked_has c.self.inside.holders.imports.asks c.args.oid c.args.token))
