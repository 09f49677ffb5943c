-- The least number that is not left out.
use Rattle.std.proofs.Common.{◌≡◌, ℕ, zero, suc, ◌+◌, ◌-◌, ◌<◌, ◌≤◌, Bool, true, false, eqb, List}
use Rattle.std.proofs.Common.{[], ◌∷◌, length, refl, sym, ap, ◌∙◌, arith, inl, inr}
use Rattle.std.specs.Prelude.{◌||◌, ◌&&◌, nat_le, nat_lt}
use Rattle.std.proofs.lemmas.Bool.{ne_eqb, cases_lt, Decides.nat_tests}
use Rattle.do_grammar.specs.BesideHoles.{is_hole, next_beside}

-- what a way to the next free number does
record Leads (next : ℕ → ℕ) : Type 0 where
  -- the next number is not below
  up : (n : ℕ) → n ≤ next n
  -- the next number is next to itself
  stays : (n : ℕ) → next (next n) ≡ next n
  -- none between is next to itself
  least : (n y : ℕ) → n ≤ y → next y ≡ y → next n ≤ y

-- one number more that is left out
module _ (h : ℕ) (holes : List ℕ) (L : Leads (next_beside holes)) where
  -- where the next number is the one more that is left out, it is the next behind it
  at_hole : (n : ℕ) → eqb (next_beside holes n) h ≡ true
      → next_beside (h ∷ holes) n ≡ next_beside holes (suc h)
  at_hole n e = rw e refl

  -- where it is another, it stays
  past : (n : ℕ) → eqb (next_beside holes n) h ≡ false
      → next_beside (h ∷ holes) n ≡ next_beside holes n
  past n e = rw e refl

  -- a test that passes has equal numbers
  eq_of : (n : ℕ) → eqb n h ≡ true → n ≡ h
  eq_of n e = grind (arith, nat_tests)

  -- one that fails has none
  ne_of : (n : ℕ) → eqb n h ≡ false → n ≡ h → ⊥
  ne_of n e same = grind (arith, nat_tests)

  up : (n : ℕ) → n ≤ next_beside (h ∷ holes) n
  up n = go (eqb (next_beside holes n) h) refl
    where
      go : (t : Bool) → eqb (next_beside holes n) h ≡ t → n ≤ next_beside (h ∷ holes) n
      go true e =
          let same = eq_of (next_beside holes n) e in
          omega (arith, at_hole n e, L.up n, L.up (suc h))
      go false e = omega (arith, past n e, L.up n)

  -- a number from which nothing leads away, and which isn't the hole
  here : (n : ℕ) → next_beside holes n ≡ n → (n ≡ h → ⊥) → next_beside (h ∷ holes) n ≡ n
  here n e ne = past n (ap (λ (w : ℕ). eqb w h) e ∙ ne_eqb n h ne) ∙ e

  stays : (n : ℕ) (t : Bool) → eqb (next_beside holes n) h ≡ t
      → next_beside (h ∷ holes) (next_beside (h ∷ holes) n) ≡ next_beside (h ∷ holes) n
  stays n true e =
      let to = at_hole n e in
      let above : suc h ≤ next_beside holes (suc h) = L.up (suc h) in
      ap (next_beside (h ∷ holes)) to
      ∙ here (next_beside holes (suc h)) (L.stays (suc h))
      (λ (w : next_beside holes (suc h) ≡ h). omega arith) ∙ sym to
  stays n false e =
      let to = past n e in
      ap (next_beside (h ∷ holes)) to
      ∙ here (next_beside holes n) (L.stays n) (ne_of (next_beside holes n) e) ∙ sym to

  least : (n y : ℕ) → n ≤ y → next_beside (h ∷ holes) y ≡ y → (t : Bool)
      → eqb (next_beside holes y) h ≡ t → (u : Bool) → eqb (next_beside holes n) h ≡ u
      → next_beside (h ∷ holes) n ≤ y
  least n y le e true t u f =
      absurd (omega (arith, at_hole y t, L.up (suc h), L.up y, eq_of (next_beside holes y) t))
  least n y le e false t true f =
      let own : next_beside holes y ≡ y = sym (past y t) ∙ e in
      let other : y ≡ h → ⊥ = λ (w : y ≡ h). ne_of (next_beside holes y) t (own ∙ w) in
      let reach : next_beside holes n ≤ y = L.least n y le own in
      let hit = eq_of (next_beside holes n) f in
      let above : suc h ≤ y =
      elim (cases_lt h y) [ inl lt ↦ lt | inr ge ↦ absurd (other (omega arith)) ] in
      omega (arith, at_hole n f, L.least (suc h) y above own)
  least n y le e false t false f =
      let own : next_beside holes y ≡ y = sym (past y t) ∙ e in
      omega (arith, past n f, L.least n y le own)

  -- so one number more leads on as those before
  leads_beside : Leads (next_beside (h ∷ holes))
  leads_beside = record {
    up = up;
    stays = λ n. stays n (eqb (next_beside holes n) h) refl;
    least = λ n y le e.
        least n y le e (eqb (next_beside holes y) h) refl (eqb (next_beside holes n) h) refl;
  }

-- so do all that are left out
leads : (holes : List ℕ) → Leads (next_beside holes)
leads [] = record { up = λ n. omega arith; stays = λ n. refl; least = λ n y le e. le }
leads (h ∷ holes) = leads_beside h holes (leads holes)

-- the next number is not below
pub next_up : (holes : List ℕ) (n : ℕ) → n ≤ next_beside holes n
next_up holes = (leads holes).up

-- the next number is next to itself
pub next_stays : (holes : List ℕ) (n : ℕ)
    → next_beside holes (next_beside holes n) ≡ next_beside holes n
next_stays holes = (leads holes).stays

-- it is the least of those that are next to themselves
pub next_least : (holes : List ℕ) (n y : ℕ) → n ≤ y → next_beside holes y ≡ y
    → next_beside holes n ≤ y
next_least holes = (leads holes).least

-- nothing leads away from just those that are not left out
module _ (h : ℕ) (holes : List ℕ) (n : ℕ) where
  -- what is next to itself is none of one number more
  stays_step : (next_beside holes n ≡ n → is_hole holes n ≡ false) → next_beside (h ∷ holes) n ≡ n
      → (t : Bool) → eqb (next_beside holes n) h ≡ t → is_hole (h ∷ holes) n ≡ false
  stays_step rec e true t =
      let to : next_beside holes (suc h) ≡ n = sym (rw t refl) ∙ e in
      let hit : next_beside holes n ≡ h = grind (arith, nat_tests) in
      absurd (omega (arith, next_up holes n, next_up holes (suc h)))
  stays_step rec e false t =
      let own : next_beside holes n ≡ n = sym (rw t refl) ∙ e in
      let ne : h ≡ n → ⊥ = λ (w : h ≡ n). grind (arith, nat_tests) in
      rw (ne_eqb h n ne) (rec own)

  -- what is none of one number more is next to itself
  free_step : (is_hole holes n ≡ false → next_beside holes n ≡ n) → is_hole (h ∷ holes) n ≡ false
      → (t : Bool) → eqb h n ≡ t → next_beside (h ∷ holes) n ≡ n
  free_step rec e true t = let all : is_hole (h ∷ holes) n ≡ true = rw t refl in absurd cc
  free_step rec e false t =
      let rest : is_hole holes n ≡ false = sym (rw t refl) ∙ e in
      let own = rec rest in
      let ne : eqb n h ≡ false = grind (arith, nat_tests) in
      let skip : eqb (next_beside holes n) h ≡ false = ap (λ (w : ℕ). eqb w h) own ∙ ne in
      rw skip own

-- what is next to itself is not left out
pub stays_free : (holes : List ℕ) (n : ℕ) → next_beside holes n ≡ n → is_hole holes n ≡ false
stays_free [] n e = refl
stays_free (h ∷ holes) n e =
    stays_step h holes n (stays_free holes n) e (eqb (next_beside holes n) h) refl

-- what is not left out is next to itself
pub free_stays : (holes : List ℕ) (n : ℕ) → is_hole holes n ≡ false → next_beside holes n ≡ n
free_stays [] n e = refl
free_stays (h ∷ holes) n e = free_step h holes n (free_stays holes n) e (eqb h n) refl

-- ---- so many holes cannot fill more numbers

abbrev bit : Bool → ℕ
bit true = 1
bit false = 0

abbrev within : ℕ → ℕ → ℕ → Bool
within n m y = nat_le n y && nat_lt y (n + m)

-- how many holes are among m numbers from n on
abbrev hits : ℕ → ℕ → List ℕ → ℕ
hits n m [] = 0
hits n m (h ∷ holes) = bit (within n m h) + hits n m holes

-- a truth value counts at most one
bit_le : (b : Bool) → bit b ≤ 1
bit_le true = omega arith
bit_le false = omega arith

-- at most all that are left out lie within some numbers
hits_le : (n m : ℕ) (holes : List ℕ) → hits n m holes ≤ length holes
hits_le n m [] = omega arith
hits_le n m (h ∷ holes) = omega (arith, bit_le (within n m h), hits_le n m holes)

-- one number more, and those before it
within_last : (n m h : ℕ) → bit (within n (suc m) h) ≡ bit (within n m h) + bit (eqb h (n + m))
within_last n m h =
    elim (cases_lt h n) [
      | inl lt ↦ let e : eqb h (n + m) ≡ false = grind (arith, nat_tests) in
          let f : nat_le n h ≡ false = grind (arith, nat_tests) in rw (e, f) refl
      | inr ge ↦
          let f : nat_le n h ≡ true = grind (arith, nat_tests) in
          elim (cases_lt h (n + m)) [
            | inl lt ↦ let e : eqb h (n + m) ≡ false = grind (arith, nat_tests) in
                let a : nat_lt h (n + m) ≡ true = grind (arith, nat_tests) in
                let b : nat_lt h (n + suc m) ≡ true = grind (arith, nat_tests) in
                rw (e, f, a, b) refl
            | inr le ↦
                let a : nat_lt h (n + m) ≡ false = grind (arith, nat_tests) in
                elim (cases_lt (n + m) h) [
                  | inl lt ↦ let e : eqb h (n + m) ≡ false = grind (arith, nat_tests) in
                      let b : nat_lt h (n + suc m) ≡ false = grind (arith, nat_tests) in
                      rw (e, f, a, b) refl
                  | inr eq ↦ let e : eqb h (n + m) ≡ true = grind (arith, nat_tests) in
                      let b : nat_lt h (n + suc m) ≡ true = grind (arith, nat_tests) in
                      rw (e, f, a, b) refl
                ]
          ]
    ]

-- one number more that is left out counts one more
hits_step : (n m h : ℕ) (holes : List ℕ)
    → bit (is_hole holes (n + m)) + hits n m holes ≤ hits n (suc m) holes → (t : Bool)
    → eqb h (n + m) ≡ t
    → bit (is_hole (h ∷ holes) (n + m)) + hits n m (h ∷ holes) ≤ hits n (suc m) (h ∷ holes)
hits_step n m h holes rest t e =
    let before : hits n m (h ∷ holes) ≡ bit (within n m h) + hits n m holes = refl in
    let behind : hits n (suc m) (h ∷ holes) ≡ bit (within n (suc m) h) + hits n (suc m) holes =
    refl in
    let one : bit (is_hole (h ∷ holes) (n + m)) ≤ bit (eqb h (n + m)) + bit
    (is_hole holes (n + m)) = bit_or (eqb h (n + m)) (is_hole holes (n + m)) in
    omega (arith, within_last n m h)
  where
    bit_or : (a b : Bool) → bit (a || b) ≤ bit a + bit b
    bit_or true b = omega arith
    bit_or false b = omega arith

-- a hole is among the numbers once at least
hits_hole : (n m : ℕ) (holes : List ℕ)
    → bit (is_hole holes (n + m)) + hits n m holes ≤ hits n (suc m) holes
hits_hole n m [] = omega (arith, bit_le false)
hits_hole n m (h ∷ holes) = hits_step n m h holes (hits_hole n m holes) (eqb h (n + m)) refl

-- numbers that are all left out are at most so many as those left out
all_holes : (holes : List ℕ) (n m : ℕ) → ((k : ℕ) → k < m → is_hole holes (n + k) ≡ true)
    → m ≤ hits n m holes
all_holes holes n zero h = omega arith
all_holes holes n (suc m) h =
    let one : bit (is_hole holes (n + m)) ≡ 1 =
    one_of (is_hole holes (n + m)) (h m (omega arith)) in
    omega (arith, hits_hole n m holes, all_holes holes n m (λ k lt. h k (omega arith)))
  where
    one_of : (b : Bool) → b ≡ true → bit b ≡ 1
    one_of b e = rw e refl

-- the next free number is not far
pub next_near : (holes : List ℕ) (n : ℕ) → next_beside holes n ≤ n + length holes
next_near holes n =
    let up = next_up holes n in
    let m : ℕ = next_beside holes n - n in
    omega (
      arith,
      hits_le n m holes,
      all_holes holes n m (λ k lt. taken k lt (is_hole holes (n + k)) refl),
    )
  where
    taken : (k : ℕ) → k < next_beside holes n - n → (t : Bool) → is_hole holes (n + k) ≡ t
        → is_hole holes (n + k) ≡ true
    taken k lt true t = t
    taken k lt false t =
        absurd (omega (
          arith,
          next_least holes n (n + k) (omega arith) (free_stays holes (n + k) t),
        ))

-- a hole is passed over
pub next_past : (holes : List ℕ) (n : ℕ) → is_hole holes n ≡ true
    → next_beside holes n ≡ next_beside holes (n + 1)
next_past holes n h =
    let moved : n < next_beside holes n = go (eqb (next_beside holes n) n) refl in
    let up = next_up holes n in
    let a = next_least holes (n + 1) (next_beside holes n) (omega arith) (next_stays holes n) in
    let b = next_least holes n (next_beside holes (n + 1)) (omega (arith, next_up holes (n + 1)))
    (next_stays holes (n + 1)) in
    omega arith
  where
    go : (t : Bool) → eqb (next_beside holes n) n ≡ t → n < next_beside holes n
    go true t =
        let same : next_beside holes n ≡ n = grind (arith, nat_tests) in
        let free = stays_free holes n same in
        absurd cc
    go false t =
        let up = next_up holes n in
        let ne : next_beside holes n ≡ n → ⊥ =
        λ (w : next_beside holes n ≡ n). grind (arith, nat_tests) in
        elim (cases_lt n (next_beside holes n)) [ inl lt ↦ lt | inr ge ↦ absurd (ne (omega arith)) ]

pub ruleset holes_laws = (next_past, free_stays, next_up, next_stays)
