use Rattle.do_part.proofs.part.Part.object.Goals as goal
use Rattle.std.proofs.Common.{sym}
use Rattle.do_part.proofs.Stored.{look}

-- what the store has is what the node stores
pub returns : goal.returns
returns c =
    let i = c.self.inside in
    rw (← c.self.view_is) (look i.holders.store.objects c.args.serial c.get.result
    (λ p. p.0) (λ p. p.1.now)
    (c.get.ensures.own (sym c.self.invariant.balanced.home)))
