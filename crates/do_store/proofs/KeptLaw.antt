-- Sweeping until nothing is idle leaves the greatest set that holds itself up.
use Rattle.std.proofs.Common.{◌≡◌, ◌≢◌, ℕ, ◌<◌, ◌≤◌, Bool, true, cond, eqb, eq-eqb, ne_eqb, List}
use Rattle.std.proofs.Common.{[], ◌∷◌, ◌++◌, Option, Some, None, Contains, IsSome, refl, sym, ap}
use Rattle.std.proofs.{Common.{◌∙◌, subst, inl, inr, arith}, lemmas.Bool.cases_eq}
use Rattle.std.proofs.lemmas.List.Sums.{sum_by-cons}
use Rattle.slab.proofs.SlabLemmas.{Contains-cons, Contains-cons_cases}
use Rattle.do_store.specs.Names.{Stored, named_in, values_name, find_stored, replaced}
use Rattle.do_store.specs.Kept.{HoldsUp, Swept, NoneIdle, LeavesKept}

-- the first object is found by its serial
find-here : (x : Stored) (xs : List Stored) (n : ℕ) → x.serial ≡ n → find_stored (x ∷ xs) n ≡ Some x
find-here x xs n same = ap (λ b. cond b (Some x) (find_stored xs n)) (eq-eqb x.serial n same)

-- an object with another serial is passed over
find-later : (x : Stored) (xs : List Stored) (n : ℕ) → x.serial ≢ n
    → find_stored (x ∷ xs) n ≡ find_stored xs n
find-later x xs n other = ap (λ b. cond b (Some x) (find_stored xs n)) (ne_eqb x.serial n other)

-- to take out the first object leaves the others
without-here : (x : Stored) (xs : List Stored) (n : ℕ) → x.serial ≡ n
    → replaced n (λ s. []) (x ∷ xs) ≡ replaced n (λ s. []) xs
without-here x xs n same =
    ap (λ b. cond b [] (x ∷ []) ++ replaced n (λ s. []) xs) (eq-eqb x.serial n same)

-- to take out another object leaves the first one
without-later : (x : Stored) (xs : List Stored) (n : ℕ) → x.serial ≢ n
    → replaced n (λ s. []) (x ∷ xs) ≡ x ∷ replaced n (λ s. []) xs
without-later x xs n other =
    ap (λ b. cond b [] (x ∷ []) ++ replaced n (λ s. []) xs) (ne_eqb x.serial n other)

-- to take out an object leaves look-ups of others
find-without : (xs : List Stored) (n k : ℕ) → k ≢ n
    → find_stored (replaced n (λ s. []) xs) k ≡ find_stored xs k
find-without [] n k differs = refl
find-without (x ∷ xs) n k differs =
    elim (cases_eq x.serial n) [
      | inl same ↦ ap (λ l. find_stored l k) (without-here x xs n same)
          ∙ find-without xs n k differs ∙ sym (find-later x xs k (λ e. differs (sym e ∙ same)))
      | inr other ↦ ap (λ l. find_stored l k) (without-later x xs n other)
          ∙ ap (λ f. cond (eqb x.serial k) (Some x) f) (find-without xs n k differs)
    ]

-- to take out an object leaves the others as members
member-without : (xs : List Stored) (n : ℕ) (p : Stored) → p.serial ≢ n → Contains xs p
    → Contains (replaced n (λ s. []) xs) p
member-without [] n p differs there = absurd (omega (arith, there.1))
member-without (x ∷ xs) n p differs there =
    let P : List Stored → Type 0 = λ l. Contains l p in
    elim (Contains-cons_cases x p xs there) [
      | inl here ↦ subst P
          (sym (without-later x xs n (λ e. differs (ap (λ (s : Stored). s.serial) (sym here) ∙ e))))
          (0, omega arith, here)
      | inr later ↦
          let rest = member-without xs n p differs later in
          elim (cases_eq x.serial n) [
            | inl same ↦ subst P (sym (without-here x xs n same)) rest
            | inr other ↦
                subst P (sym (without-later x xs n other))
                (Contains-cons x p (replaced n (λ s. []) xs) rest)
          ]
    ]

-- a member names an object no more often than all objects do
member-names : (node n : ℕ) (xs : List Stored) (p : Stored) → Contains xs p
    → values_name node n p.slots ≤ named_in node n xs
member-names node n [] p there = absurd (omega (arith, there.1))
member-names node n (x ∷ xs) p there =
    let f : Stored → ℕ = λ (s : Stored). values_name node n s.slots in
    let e = sum_by-cons f x xs in
    elim (Contains-cons_cases x p xs there) [
      | inl here ↦ let g = ap f here in omega arith
      | inr later ↦ let g = member-names node n xs p later in omega arith
    ]

-- a member's serial is found
member-found : (xs : List Stored) (p : Stored) → Contains xs p → IsSome (find_stored xs p.serial)
member-found [] p there = absurd (omega (arith, there.1))
member-found (x ∷ xs) p there =
    elim (cases_eq x.serial p.serial) [
      | inl same ↦ rw (find-here x xs p.serial same) refl
      | inr other ↦ elim (Contains-cons_cases x p xs there) [
        | inl here ↦ absurd (other (ap (λ (s : Stored). s.serial) here))
        | inr later ↦ rw (find-later x xs p.serial other) (member-found xs p later)
      ]
    ]

-- where slots name an object, some object's do
namer : (node n : ℕ) (xs : List Stored) → named_in node n xs ≢ 0 → (p : Stored) × Contains xs p
    × (0 < values_name node n p.slots)
namer node n [] some = absurd (some refl)
namer node n (x ∷ xs) some =
    let f : Stored → ℕ = λ (s : Stored). values_name node n s.slots in
    let e = sum_by-cons f x xs in
    elim (cases_eq (f x) 0) [
      | inl none ↦ let r = namer node n xs (λ g. some (e ∙ omega arith)) in
          (r.0, Contains-cons x r.0 xs r.1, r.2)
      | inr here ↦ (x, (0, omega arith, refl), omega arith)
    ]

-- what is found is one object
found_one : (o p : Stored) → Some o ≡ Some p → o ≡ p
found_one o p e = cc

-- what cannot be taken out is in no set's way
not_kept : (node : ℕ) (xs : List Stored) (n : ℕ) (o : Stored) (keep : ℕ → Bool)
    → find_stored xs n ≡ Some o → o.held ≡ 0 → named_in node n xs ≡ 0 → HoldsUp node xs keep
    → keep n ≡ true → ⊥
not_kept node xs n o keep found held unnamed up kept =
    let u = up n kept in
    let same = found_one u.0 o (sym u.1 ∙ found) in
    let h : u.0.held ≡ 0 = ap (λ (s : Stored). s.held) same ∙ held in
    elim u.2 [
      | inl above ↦ absurd (omega arith)
      | inr named ↦ let m = member-names node n xs named.0 named.1 in let a = named.3 in
          absurd (omega arith)
    ]

-- a set that holds itself up still does, once an object outside it is taken out
still_up : (node : ℕ) (xs : List Stored) (n : ℕ) (keep : ℕ → Bool) → (keep n ≡ true → ⊥)
    → HoldsUp node xs keep → HoldsUp node (replaced n (λ s. []) xs) keep
still_up node xs n keep out up k kept =
    let u = up k kept in
    let apart : k ≢ n = λ e. out (ap keep (sym e) ∙ kept) in (
      u.0,
      find-without xs n k apart ∙ u.1,
      elim u.2 [
        | inl above ↦ inl above
        | inr named ↦
            inr (
              named.0,
              member-without xs n named.0 (λ e. out (ap keep (sym e) ∙ named.2)) named.1,
              named.2,
              named.3,
            )
      ],
    )

-- sweeping keeps every set that holds itself up
greatest : (node : ℕ) (xs ys : List Stored) → Swept node xs ys → (keep : ℕ → Bool)
    → HoldsUp node xs keep → (n : ℕ) → keep n ≡ true → IsSome (find_stored ys n)
greatest node _ _ (Swept.none xs) keep up n kept = let u = up n kept in rw u.1 refl
greatest node _ _ (Swept.more xs ys m o found held unnamed rest) keep up n kept =
    greatest node (replaced m (λ s. []) xs) ys rest keep
    (still_up node xs m keep (not_kept node xs m o keep found held unnamed up) up) n kept

-- what is found is an object
some_found : (o : Option Stored) → IsSome o → (s : Stored) × (o ≡ Some s)
some_found None there = absurd (cc)
some_found (Some s) there = (s, refl)

-- sweeping until nothing is idle leaves the greatest set that holds itself up
pub leaves_kept : (node : ℕ) (xs ys : List Stored) → Swept node xs ys → NoneIdle node ys
    → LeavesKept node xs ys
leaves_kept node xs ys swept stuck = record {
  holds_up = λ n there.
      let s = some_found (find_stored ys n) there in (
        s.0,
        s.1,
        elim (cases_eq s.0.held 0) [
          | inl none ↦ let p = namer node n ys (stuck n s.0 s.1 none) in
              inr (p.0, p.1, member-found ys p.0 p.1, p.2)
          | inr some ↦ inl (omega arith)
        ],
      );
  greatest = greatest node xs ys swept;
}
