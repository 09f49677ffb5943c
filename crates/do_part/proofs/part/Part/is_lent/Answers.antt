use Rattle.do_part.proofs.part.Part.is_lent.Goals as goal
use Rattle.std.proofs.Common.{◌∙◌, sym}
use Rattle.do_part.proofs.LinkRows.{lent_has}

-- the lend is among those that the node sees
pub returns : goal.returns
returns c = rw (← c.self.view_is) (c.has_lend.ensures
    ∙ sym (lent_has c.self.inside.holders.imports.lends c.args.borrower c.args.number))
