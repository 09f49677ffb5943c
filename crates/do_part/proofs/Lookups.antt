-- What slots, invocations, the root and entries of a part name is stored.
use Rattle.std.specs.FinMap as map
use Rattle.std.proofs.Common.{◌≡◌, ℕ, ◌+◌, ◌<◌, ◌≤◌, Bool, true, false, cond, eqb, ◌||◌, arith}
use Rattle.std.proofs.Common.{List, [], ◌∷◌, Some, IsSome, sum_by, refl, ap, ◌∙◌, eqb-true, eq-eqb}
use Rattle.std.proofs.Common.{ne_eqb, is_some, Option, None, inl, inr, map as each}
use Rattle.std.{specs.{List.list_any, Option.unwrap_or}, proofs.lemmas.List.Sums.sum_by-cons}
use Rattle.do_export.specs.Counts.{Counts, count_of}
use Rattle.do_machine.specs.{State.{is_open, stored}, Lists.IsIn, declared.node.Stored.Stored}
use Rattle.do_machine.specs.held.Kept.{is_root}
use Rattle.do_store.specs.{Listing.Rising, Names.Stored as Kept}
use Rattle.do_part.specs.{Holding.plain, Names.{heap_of, stack_of, AreStored}, Seen.own_of}
use Rattle.do_part.specs.{Sound.IsSound, declared.part.Part.TheInside.Inside}
use Rattle.do_part.proofs.{Balanced.named-plain, Created.none_from}
use Rattle.do_part.proofs.Stored.{none-stored, stored-found}

-- one of a list counts in the sum over it
one-counts : (f : ℕ → ℕ) (p : ℕ) (xs : List ℕ) → list_any (λ x. eqb x p) xs ≡ true
    → f p ≤ sum_by f xs
one-counts f p [] is = absurd (cc)
one-counts f p (x ∷ xs) is = go (eqb x p) refl is (one-counts f p xs)
  where
    go : (b : Bool) → eqb x p ≡ b → (b || list_any (λ y. eqb y p) xs) ≡ true
        → (list_any (λ y. eqb y p) xs ≡ true → f p ≤ sum_by f xs) → f p ≤ sum_by f (x ∷ xs)
    go true e this later =
        let a = sum_by-cons f x xs in
        let c = ap f (eqb-true x p e) in
        omega (arith, a, c)
    go false e this later =
        let a = sum_by-cons f x xs in
        let c = later this in
        omega (arith, a, c)

-- what counts something is there
count-there : (counts : Counts) (k : ℕ × ℕ) → 0 < count_of counts k.0 k.1
    → map.contains_key counts k ≡ true
count-there counts k above = go (map.get counts k) refl
  where
    go : (o : Option ℕ) → map.get counts k ≡ o → map.contains_key counts k ≡ true
    go None is =
        let e : count_of counts k.0 k.1 ≡ 0 = ap (λ o. unwrap_or o 0) is in
        absurd (omega (arith, e, above))
    go (Some n) is = ap is_some is

-- each of some objects whose serials rise is the one that is stored under its serial
rising-apart : (low top : ℕ) (xs : List Kept) (x : Stored)
    → Rising (λ (o : Kept). o.serial) low xs top → IsIn (each plain xs) x
    → (low ≤ x.serial) × (stored x.serial (each plain xs) ≡ Some x)
rising-apart low top [] x r is = absurd is
rising-apart low top (o ∷ os) x r (inl this) =
    let e : o.serial ≡ x.serial = ap (λ (y : Stored). y.serial) this in
    let above = r.0 in (
      omega (arith, above, e),
      ap (λ b. cond b (Some (plain o)) (stored x.serial (each plain os)))
          (eq-eqb o.serial x.serial e) ∙ ap Some this,
    )
rising-apart low top (o ∷ os) x r (inr later) =
    let rest = rising-apart (o.serial + 1) top os x r.1 later in
    let above = r.0 in
    let more = rest.0 in (
      omega (arith, above, more),
      ap (λ b. cond b (Some (plain o)) (stored x.serial (each plain os)))
          (ne_eqb o.serial x.serial (λ e. absurd (omega (arith, more, e)))) ∙ rest.1,
    )

module _ (i : Inside) (s : IsSound i) where
  -- what slots name is stored
  pub slots-stored : AreStored (own_of i).node (heap_of (own_of i).node.heap)
  slots-stored n above = stored-found i.holders.store.objects n
      (s.balanced.closed n (let e = named-plain i.holders.node n i.holders.store.objects in
      omega (arith, e, above)))

  -- what invocations name is stored
  pub stack-stored : AreStored (own_of i).node (stack_of (own_of i).node.stack)
  stack-stored n above = stored-found i.holders.store.objects n
      (s.balanced.there n (omega (arith, above)))

  -- so is the root
  pub root-stored : (n : ℕ) → (own_of i).node.root ≡ Some n
      → IsSome (stored n (own_of i).node.heap)
  root-stored n is = stored-found i.holders.store.objects n
      (s.balanced.there n
      (let e : is_root (own_of i).node n ≡ true =
      ap (λ (r : Option ℕ). elim r [ None ↦ false | Some m ↦ eqb m n ]) is ∙ eq-eqb n n refl in
      let c : ◌≡◌ {A = ℕ} (cond (is_root (own_of i).node n) 1 0) 1 = ap (λ b. cond b 1 0) e in
      omega (arith, c)))

  -- and each object of an entry of a peer to which the end is open
  pub entry-there : (peer n : ℕ) → is_open (own_of i).node peer ≡ true
      → 0 < count_of (own_of i).counts peer n → IsSome (stored n (own_of i).node.heap)
  entry-there peer n opened above = stored-found i.holders.store.objects n
      (s.balanced.there n
      (let e = one-counts (λ p. cond (map.contains_key (own_of i).counts (p, n)) 1 0) peer i.ends
      opened in
      let c : ◌≡◌ {A = ℕ} (cond (map.contains_key (own_of i).counts (peer, n)) 1 0) 1 =
      ap (λ b. cond b 1 0) (count-there (own_of i).counts (peer, n) above) in
      omega (arith, e, c)))

  -- no object is stored under the next serial, or a later one
  pub none-later : (n : ℕ) → (own_of i).node.next_serial ≤ n
      → stored n (own_of i).node.heap ≡ None
  none-later n above = none-stored i.holders.store.objects n
      (none_from 0 i.holders.store.next n i.holders.store.objects above s.balanced.rising)

  -- each stored object is the one of its serial
  pub serials-apart : (x : Stored) → IsIn (own_of i).node.heap x
      → stored x.serial (own_of i).node.heap ≡ Some x
  serials-apart x there =
      (rising-apart 0 i.holders.store.next i.holders.store.objects x s.balanced.rising there).1
