use Rattle.do_store.proofs.store.Store.object.Goals as goal
use Rattle.std.proofs.Common.{◌≡◌, ℕ, zero, suc, ◌<◌, Option, None, IsSome, refl, sym, subst, arith}
use Rattle.do_store.specs.{Objects.stored_at, declared.object.Object.Object}
use Rattle.do_store.proofs.Turns.{find-seen, find-none}

-- what names only stored objects does not name one that is not
unnamed : (o : Option Object) (names : ℕ) → (0 < names → IsSome o) → o ≡ None → names ≡ 0
unnamed o names closed none = go names closed
  where
    -- by whether it names one
    go : (m : ℕ) → (0 < m → IsSome o) → m ≡ 0
    go zero known = refl
    go (suc m) known =
        let there : IsSome {T = Object} None = subst IsSome none (known (omega arith)) in
        absurd (cc)

pub returns-in_err-object-clause-own : goal.returns-in_err-object-clause-own
returns-in_err-object-clause-own c =
    λ home. let none = sym c.in_err-object.ensures.value in
    rw (c.from_residual.ensures, ← c.self.view_is, ← c.oid.view_is) (
      find-none c.self.inside.table.objects c.oid.inside.serial none,
      unnamed _ _ (c.self.invariant.closed c.oid.inside.serial) none,
    )

pub returns-clause-own : goal.returns-clause-own
returns-clause-own c =
    λ home. let stored = sym c.in_ok-object.ensures.value in
    let count = c.self.invariant.counted c.oid.inside.serial c.in_ok-object.object.now stored in
    rw (← c.self.view_is, ← c.oid.view_is) (
      find-seen c.self.inside.table.objects c.oid.inside.serial c.in_ok-object.object.now stored,
      omega (arith, count),
    )
