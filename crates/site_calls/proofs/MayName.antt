-- When a slot may name an object.
use Rattle.std.proofs.Common.{◌≡◌, ◌≢◌, ℕ, ◌+◌, ◌<◌, ◌^◌, Bool, true, false, cond, eqb, eqb-true}
use Rattle.std.proofs.Common.{IsSome, refl, arith, subst}
use Rattle.do_base.specs.{names.Names.ObjectName, declared.values.value.Value.TheVariants.Obj}
use Rattle.do_store.specs.Names.{Objects, find_stored, named_in, value_names}
use Rattle.do_store.proofs.{StepsInARow.{once, once_same}, Valued.{names-own, names-foreign}}
use Rattle.site_calls.specs.May.{MayHold}

-- one name is that of one serial
named_one : (serial n : ℕ) → 0 < once serial n → serial ≡ n
named_one serial n above = go (eqb serial n) refl above
  where
    -- by whether it is the serial
    go : (b : Bool) → eqb serial n ≡ b → 0 < cond b 1 0 → serial ≡ n
    go true e more = eqb-true serial n e
    go false e more = absurd (omega arith)

-- a foreign object may be named
pub foreign_may : (s : Objects) (o : ObjectName) → o.node ≢ s.node → MayHold s (Obj o)
foreign_may s o away = record {
  stored = λ n above. let none = names-foreign s.node n o away in absurd (omega arith);
  bound = λ n above. let none = names-foreign s.node n o away in absurd (omega arith);
}

-- a stored object may be named whose count has room
pub stored_may : (s : Objects) (o : ObjectName) → o.node ≡ s.node
    → IsSome (find_stored s.objects o.serial) → named_in s.node o.serial s.objects + 1 < 2 ^ 64
    → MayHold s (Obj o)
stored_may s o home there few = record {
  stored = λ n above. subst (λ m. IsSome (find_stored s.objects m)) (same n above) there;
  bound = λ n above.
      subst (λ (m : ℕ). named_in s.node m s.objects + value_names s.node m (Obj o) < 2 ^ 64)
      (same n above)
      (let one = names-own s.node o.serial o home in
      let single = once_same o.serial in omega arith);
}
  where
    -- what is named is this object
    same : (n : ℕ) → 0 < value_names s.node n (Obj o) → o.serial ≡ n
    same n above = let own = names-own s.node n o home in named_one o.serial n (omega arith)
