use Rattle.do_store.proofs.store.Store.get.Goals as goal
use Rattle.std.proofs.Common.{refl}
use Rattle.do_store.specs.Books.{seen}

pub returns-in_err-object-clause-own : goal.returns-in_err-object-clause-own
returns-in_err-object-clause-own c =
    λ home. rw c.from_residual.ensures ((c.in_err-object.ensures.own home).0)

pub returns-clause-own : goal.returns-clause-own
returns-clause-own c =
    λ home. (seen c.in_ok-object.object.now, (c.in_ok-object.ensures.own home).0, refl, refl)
