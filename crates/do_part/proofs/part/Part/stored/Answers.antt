use Rattle.do_part.proofs.part.Part.stored.Goals as goal
use Rattle.std.proofs.Common.{◌≡◌, IfOk, subst}
use Rattle.do_part.proofs.Stored.{stored-named}

-- the names are those of the objects that the node stores
pub returns : goal.returns
returns c =
    let i = c.self.inside in
    rw (← c.self.view_is) (subst (λ names. IfOk c.stored.result (λ oids. oids ≡ names))
    (stored-named i.holders.store.node i.holders.node c.self.invariant.balanced.home
    i.holders.store.objects) c.stored.ensures)
