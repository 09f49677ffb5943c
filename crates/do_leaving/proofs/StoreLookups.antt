-- Stored objects: look-ups, members, and what is left once one is taken out.
use Rattle.std.proofs.Common.{length, ◌≤◌, ◌≡◌, ◌≢◌, ℕ, ◌+◌, ◌<◌, cond, List, [], ◌∷◌, ◌++◌, refl}
use Rattle.std.proofs.Common.{sym, ap, ◌∙◌, subst, arith, inl, inr, eq-eqb, ne_eqb, sum_by, Some}
use Rattle.std.proofs.lemmas.{Bool.cases_eq, List.Sums.sum_by-cons}
use Rattle.do_store.specs.{Listing.Rising, Names.{Stored, find_stored, replaced}}
use Rattle.do_leaving.specs.Counted.{serial_of}
use Rattle.do_machine.specs.Lists.{IsIn}
use Rattle.do_leaving.proofs.RisingLists.{rising-least, rising-from}

-- the object found by a serial is there and has it
pub find_in : (xs : List Stored) (n : ℕ) (o : Stored) → find_stored xs n ≡ Some o
    → IsIn xs o × (o.serial ≡ n)
find_in [] n o e = absurd (cc)
find_in (x ∷ xs) n o e = elim (cases_eq x.serial n) [
  | inl same ↦
      let here : find_stored (x ∷ xs) n ≡ Some x =
      ap (λ b. cond b (Some x) (find_stored xs n)) (eq-eqb x.serial n same) in
      let is : x ≡ o = cc in
      (inl is, ap serial_of (sym is) ∙ same)
  | inr other ↦
      let r = find_in xs n o
      (sym (ap (λ b. cond b (Some x) (find_stored xs n)) (ne_eqb x.serial n other)) ∙ e) in
      (inr r.0, r.1)
]

-- an object is found by its serial
pub in_find : (low top : ℕ) (xs : List Stored) (o : Stored) → Rising serial_of low xs top
    → IsIn xs o → find_stored xs o.serial ≡ Some o
in_find low top [] o r a = absurd a
in_find low top (x ∷ xs) o r (inl e) =
    ap (λ b. cond b (Some x) (find_stored xs o.serial))
    (eq-eqb x.serial o.serial (ap serial_of e)) ∙ ap Some e
in_find low top (x ∷ xs) o r (inr a) =
    let above = rising-least serial_of (x.serial + 1) top xs o r.1 a in
    ap (λ b. cond b (Some x) (find_stored xs o.serial))
    (ne_eqb x.serial o.serial (λ e. omega (arith, above, e)))
    ∙ in_find (x.serial + 1) top xs o r.1 a

-- the first object is taken out
without_here : (x : Stored) (xs : List Stored) (n : ℕ) → x.serial ≡ n
    → replaced n (λ s. []) (x ∷ xs) ≡ replaced n (λ s. []) xs
without_here x xs n same =
    ap (λ b. cond b [] (x ∷ []) ++ replaced n (λ s. []) xs) (eq-eqb x.serial n same)

-- another object is taken out
without_later : (x : Stored) (xs : List Stored) (n : ℕ) → x.serial ≢ n
    → replaced n (λ s. []) (x ∷ xs) ≡ x ∷ replaced n (λ s. []) xs
without_later x xs n other =
    ap (λ b. cond b [] (x ∷ []) ++ replaced n (λ s. []) xs) (ne_eqb x.serial n other)

-- where no object has the serial, none is taken out
without_none : (low top n : ℕ) (xs : List Stored) → Rising serial_of low xs top → n < low
    → replaced n (λ s. []) xs ≡ xs
without_none low top n [] r h = refl
without_none low top n (x ∷ xs) r h =
    without_later x xs n (λ e. omega (arith, r.0, h, e))
    ∙ ap (λ l. x ∷ l) (without_none (x.serial + 1) top n xs r.1 (omega (arith, r.0, h)))

-- what is left was there
pub in_without : (n : ℕ) (xs : List Stored) (o : Stored) → IsIn (replaced n (λ s. []) xs) o
    → IsIn xs o
in_without n [] o a = absurd a
in_without n (x ∷ xs) o a = elim (cases_eq x.serial n) [
  | inl same ↦ inr (in_without n xs o (subst (λ l. IsIn l o) (without_here x xs n same) a))
  | inr other ↦ go (subst (λ l. IsIn l o) (without_later x xs n other) a) (in_without n xs o)
]
  where
    -- at the first, and behind it
    go : IsIn (x ∷ replaced n (λ s. []) xs) o → (IsIn (replaced n (λ s. []) xs) o → IsIn xs o)
        → IsIn (x ∷ xs) o
    go (inl e) k = inl e
    go (inr b) k = inr (k b)

-- what is left rises
pub rising-without : (low top n : ℕ) (xs : List Stored) → Rising serial_of low xs top
    → Rising serial_of low (replaced n (λ s. []) xs) top
rising-without low top n [] r = r
rising-without low top n (x ∷ xs) r =
    let rest = rising-without (x.serial + 1) top n xs r.1 in
    elim (cases_eq x.serial n) [
      | inl same ↦ subst (λ l. Rising serial_of low l top) (sym (without_here x xs n same))
          (rising-from serial_of (x.serial + 1) low top (replaced n (λ s. []) xs)
          (omega (arith, r.0)) rest)
      | inr other ↦ subst (λ l. Rising serial_of low l top) (sym (without_later x xs n other))
          (r.0, rest)
    ]

-- a sum over all objects is that over those that are left, and that of the one taken out
pub sum-without : (f : Stored → ℕ) (low top : ℕ) (xs : List Stored) (o : Stored)
    → Rising serial_of low xs top → find_stored xs o.serial ≡ Some o
    → f o + sum_by f (replaced o.serial (λ s. []) xs) ≡ sum_by f xs
sum-without f low top [] o r e = absurd (cc)
sum-without f low top (x ∷ xs) o r e = elim (cases_eq x.serial o.serial) [
  | inl same ↦
      let here : find_stored (x ∷ xs) o.serial ≡ Some x =
      ap (λ b. cond b (Some x) (find_stored xs o.serial)) (eq-eqb x.serial o.serial same) in
      let is : x ≡ o = cc in
      let none = without_none (x.serial + 1) top o.serial xs r.1 (omega (arith, same)) in
      ap (λ l. f o + sum_by f l) (without_here x xs o.serial same ∙ none)
      ∙ ap (λ y. f y + sum_by f xs) (sym is) ∙ sym (sum_by-cons f x xs)
  | inr other ↦
      let rest = sum-without f (x.serial + 1) top xs o r.1
      (sym (ap (λ b. cond b (Some x) (find_stored xs o.serial)) (ne_eqb x.serial o.serial other))
      ∙ e) in
      let a = ap (sum_by f) (without_later x xs o.serial other) in
      let b = sum_by-cons f x (replaced o.serial (λ s. []) xs) in
      let c = sum_by-cons f x xs in
      omega (arith, rest, a, b, c)
]

-- no more are left than there were
no_more : (n : ℕ) (xs : List Stored) → length (replaced n (λ s. []) xs) ≤ length xs
no_more n [] = omega arith
no_more n (x ∷ xs) = elim (cases_eq x.serial n) [
  | inl same ↦ omega (arith, ap length (without_here x xs n same), no_more n xs)
  | inr other ↦ omega (arith, ap length (without_later x xs n other), no_more n xs)
]

-- fewer are left once one is taken out
pub fewer_without : (xs : List Stored) (n : ℕ) (o : Stored) → find_stored xs n ≡ Some o
    → length (replaced n (λ s. []) xs) < length xs
fewer_without [] n o e = absurd (cc)
fewer_without (x ∷ xs) n o e = elim (cases_eq x.serial n) [
  | inl same ↦ omega (arith, ap length (without_here x xs n same), no_more n xs)
  | inr other ↦
      let rest = fewer_without xs n o
      (sym (ap (λ b. cond b (Some x) (find_stored xs n)) (ne_eqb x.serial n other)) ∙ e) in
      omega (arith, ap length (without_later x xs n other), rest)
]
