-- Own objects that values name are there.
use Rattle.std.proofs.Common.{◌≡◌, ℕ, ◌+◌, ◌<◌, ◌≤◌, Bool, true, false, cond, eqb, ◌&&◌, ◌||◌}
use Rattle.std.proofs.Common.{List as Listed, [], ◌∷◌, ◌++◌, suc, zero, refl, ap, subst, ◌∙◌, arith}
use Rattle.std.proofs.Common.{length, Some, inl, inr, ◌⊎◌}
use Rattle.std.specs.Prelude.{IsSome, is_some, nat_le, nat_lt, ◌==◌}
use Rattle.std.proofs.lemmas.{Bool.Decides.nat_tests, List.Sums.{sum_by-cons, sum_by-append}}
use Rattle.do_base.specs.{names.Names.ObjectName, declared.values.value.Value.TheVariants.Obj}
use Rattle.do_behave.specs.declared.invocation.Invocation.{Invocation}
use Rattle.do_machine.specs.{declared.node.Node.Node, held.Refers.state_values}
use Rattle.do_machine.specs.{declared.node.Stored.Stored as Kept, Objects.object_at, State.stored}
use Rattle.do_machine.specs.run.Fresh.{with_objects, with_serials}
use Rattle.do_packet.specs.declared.receipt.Made.{Made}
use Rattle.do_part.proofs.Naming.{of-Obj, size-Obj}
use Rattle.do_part.specs.Names.{AreStored, size_of, sizes_of, value_of, values_of}
use Rattle.do_stack.specs.Uses.{invocation_values}
use Rattle.do_site.specs.Stored.{AreThere, Tallies, is_there}

module _ (n : Node) (more : ℕ) where
  -- a single object is there, if it is an own one
  pub one_there : (o : ObjectName) → (o.node ≡ n.port → is_there n more o.serial ≡ true) →
      AreThere n more (value_of (Obj o))
  one_there o there serial some = go (eqb o.node n.port) refl (eqb o.serial serial) refl
    where
      named : value_of (Obj o) (object_at n.port serial)
          ≡ cond (eqb o.node n.port && eqb o.serial serial) 1 0
      named = of-Obj o (object_at n.port serial)

      go : (b : Bool) → eqb o.node n.port ≡ b → (c : Bool) → eqb o.serial serial ≡ c →
          is_there n more serial ≡ true
      go true e true d =
          subst (λ k. is_there n more k ≡ true) (grind (arith, nat_tests, d))
          (there (grind (arith, nat_tests, e)))
      go true e false d =
          let none = named ∙ (ap (λ b. cond (b && eqb o.serial serial) 1 0) e)
          ∙ (ap (λ b. cond b 1 0) d) in absurd (omega (arith, none, some))
      go false e c d =
          let none = named ∙ (ap (λ b. cond (b && eqb o.serial serial) 1 0) e) in
          absurd (omega (arith, none, some))

  -- names of two kinds count together
  pub tally_both : (f g h : ObjectName → ℕ) → ((o : ObjectName) → h o ≡ f o + g o) →
      (a b k l m : ℕ) → Tallies n more f a k → Tallies n more g b l → m ≡ a + b →
      Tallies n more h m (k + l)
  tally_both f g h sums a b k l m x y e = record {
    counted = omega (arith, x.counted, y.counted, e);
    there = λ serial some. either serial (f (object_at n.port serial)) refl
        (g (object_at n.port serial)) refl (sums (object_at n.port serial)) some;
  }
    where
      either : (serial : ℕ) → (p : ℕ) → f (object_at n.port serial) ≡ p → (q : ℕ) →
          g (object_at n.port serial) ≡ q → h (object_at n.port serial) ≡ p + q →
          0 < h (object_at n.port serial) → is_there n more serial ≡ true
      either serial zero e q d s some = y.there serial (omega (arith, d, s, some))
      either serial (suc p) e q d s some = x.there serial (omega (arith, e))

  -- an invocation counts its object, its locals and its answer
  pub tally_invocation : (i : Invocation) (a b c : ℕ) →
      Tallies n more (value_of (Obj i.object)) 1 a →
      Tallies n more (values_of i.locals) (sizes_of i.locals) b →
      Tallies n more (values_of (state_values i.state)) (sizes_of (state_values i.state)) c →
      Tallies n more (values_of (invocation_values i)) (sizes_of (invocation_values i)) (a + b + c)
  tally_invocation i a b c x y z =
      let vs = i.locals ++ state_values i.state in
      let rest : Tallies n more (values_of vs) (sizes_of vs) (b + c) =
      tally_both (values_of i.locals) (values_of (state_values i.state)) (values_of vs)
      (λ o. sum_by-append (λ v. value_of v o) i.locals (state_values i.state))
      (sizes_of i.locals) (sizes_of (state_values i.state)) b c (sizes_of vs) y z
      (sum_by-append size_of i.locals (state_values i.state)) in
      let all : Tallies n more (values_of (Obj i.object ∷ vs)) (sizes_of (Obj i.object ∷ vs))
      (a + (b + c)) =
      tally_both (value_of (Obj i.object)) (values_of vs) (values_of (Obj i.object ∷ vs))
      (λ o. sum_by-cons (λ v. value_of v o) (Obj i.object) vs) 1 (sizes_of vs) a (b + c)
      (sizes_of (Obj i.object ∷ vs)) x rest
      (let one = size-Obj i.object in
      let cons = sum_by-cons size_of (Obj i.object) vs in omega (arith, one, cons)) in
      record { counted = (let e = all.counted in omega (arith, e)); there = all.there }

-- ---- what is there is stored

-- what is found in one of two lists is found in both together
found_first : (serial : ℕ) (xs ys : Listed Kept) → IsSome (stored serial xs) →
    IsSome (stored serial (xs ++ ys))
found_first serial [] ys h = cc
found_first serial (x ∷ xs) ys h =
    elim (x.serial == serial) as (λ b. IsSome (cond b (Some x) (stored serial xs)) →
    IsSome (cond b (Some x) (stored serial (xs ++ ys)))) [
      | true ↦ λ h. h
      | false ↦ found_first serial xs ys
    ] h

-- so is what is found in the second
found_second : (serial : ℕ) (xs ys : Listed Kept) → IsSome (stored serial ys) →
    IsSome (stored serial (xs ++ ys))
found_second serial [] ys h = h
found_second serial (x ∷ xs) ys h =
    elim (x.serial == serial) as (λ b. IsSome (cond b (Some x) (stored serial (xs ++ ys)))) [
      | true ↦ refl
      | false ↦ found_second serial xs ys h
    ]

-- an object that gets one of the next serials is stored
serial_found : (serial next : ℕ) (copies : Listed Made) → next ≤ serial →
    serial < next + length copies → IsSome (stored serial (with_serials next copies))
serial_found serial next [] low high = absurd (omega (arith, low, high))
serial_found serial next (c ∷ cs) low high = go (next == serial) refl
    (λ (apart : next ≡ serial → ⊥). serial_found serial (suc next) cs
    (omega (arith, low, apart)) (omega (arith, high)))
  where
    go : (b : Bool) → (next == serial) ≡ b →
        ((next ≡ serial → ⊥) → IsSome (stored serial (with_serials (suc next) cs))) →
        IsSome (cond b (Some (record { serial = next; class = c.class; slots = c.slots }))
        (stored serial (with_serials (suc next) cs)))
    go true e rest = refl
    go false e rest = rest (λ same. grind (arith, nat_tests, e, same))

-- of two tests one passes, or the first fails and the second passes
either_or : (a b : Bool) → (a || b) ≡ true → (a ≡ true) ⊎ ((a ≡ false) × (b ≡ true))
either_or true b e = inl refl
either_or false b e = inr (refl, e)

-- what is there, or among copies that come, is stored with the copies
pub there_with : (n : Node) (copies : Listed Made) (names : ObjectName → ℕ) →
    AreThere n (length copies) names → AreStored (with_objects copies n) names
there_with n copies names h serial some =
    elim (either_or (is_some (stored serial n.heap))
    (nat_le n.next_serial serial && nat_lt serial (n.next_serial + length copies))
    (h serial some)) [
      | inl e ↦ found_first serial n.heap _ e
      | inr e ↦ found_second serial n.heap _
          (let low : n.next_serial ≤ serial = grind (arith, nat_tests, e.1) in
          let high : serial < n.next_serial + length copies = grind (arith, nat_tests, e.1) in
          serial_found serial n.next_serial copies low high)
    ]

-- what is there where nothing comes is stored
pub there_stored : (n : Node) (names : ObjectName → ℕ) → AreThere n 0 names → AreStored n names
there_stored n names h serial some =
    elim (either_or (is_some (stored serial n.heap))
    (nat_le n.next_serial serial && nat_lt serial (n.next_serial + 0)) (h serial some)) [
      | inl e ↦ e
      | inr e ↦ absurd (let low : n.next_serial ≤ serial = grind (arith, nat_tests, e.1) in
          let high : serial < n.next_serial + 0 = grind (arith, nat_tests, e.1) in
          omega (arith, low, high))
    ]
