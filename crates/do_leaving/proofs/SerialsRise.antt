-- The serials of what is gone, in rising order.
use Rattle.std.proofs.Common.{◌≡◌, ℕ, suc, ◌+◌, ◌<◌, ◌≤◌, Bool, true, false, cond, not, List, []}
use Rattle.std.proofs.Common.{◌∷◌, filter, length, get_or, map, refl, sym, ap, ◌∙◌, arith, inl, inr}
use Rattle.std.{proofs.Common.{sum_by, eq-eqb, ne_eqb, ◌↔◌}, specs.Prelude.{◌==◌, ◌||◌}}
use Rattle.std.specs.{List.Sorted.{IsNonDecreasing, IsPermutation, IsSorted}, Ordering.nat_cmp}
use Rattle.std.proofs.lemmas.{Bool.{cases_eq, cases_lt}, List.Sorted.IsNonDecreasingBy-from_sort}
use Rattle.std.proofs.lemmas.{List.{Sorted.sum_by-IsPermutation, Sums.sum_by-cons}, Simd.map-map}
use Rattle.do_machine.proofs.MappedElements.{filter-map}
use Rattle.do_leaving.specs.Counted.{heap_of, plain, serial_of}
use Rattle.do_store.specs.{Listing.Rising, Names.Stored}
use Rattle.do_leaving.{specs.Sweeping.TakenOut, proofs.MachineKeeps.{has_serial, object_serial}}
use Rattle.do_leaving.proofs.{RisingLists.{rising-filter, rising-map}, TakenInTurn.taken_sum}

-- one where two numbers are the same
abbrev same : ℕ → ℕ → ℕ
same k x = cond (x == k) 1 0

-- how often a number stands in a list
abbrev tally : ℕ → List ℕ → ℕ
tally k = sum_by (same k)

-- a number stands at the front of a list
tally-here : (x : ℕ) (xs : List ℕ) → tally x (x ∷ xs) ≡ 1 + tally x xs
tally-here x xs =
    sum_by-cons (same x) x xs ∙ ap (λ b. cond b 1 0 + tally x xs) (eq-eqb x x refl)

-- another number stands there
tally-other : (k x : ℕ) (xs : List ℕ) → (x ≡ k → ⊥) → tally k (x ∷ xs) ≡ tally k xs
tally-other k x xs apart =
    sum_by-cons (same k) x xs ∙ ap (λ b. cond b 1 0 + tally k xs) (ne_eqb x k apart)
    ∙ omega arith

-- ---- numbers that climb, each no less than the one before

-- each number is no less than the one before
abbrev Climbs : ℕ → List ℕ → Type 0
Climbs low [] = Unit {0}
Climbs low (x ∷ xs) = (low ≤ x) × Climbs x xs

-- a climbing list has no number below its first
tally-below : (low k : ℕ) (xs : List ℕ) → Climbs low xs → k < low → tally k xs ≡ 0
tally-below low k [] c h = refl
tally-below low k (x ∷ xs) c h =
    tally-other k x xs (λ e. omega (arith, c.0, h, e))
    ∙ tally-below x k xs c.1 (omega (arith, c.0, h))

-- climbing lists with the same numbers are one
climbing-same : (low low' : ℕ) (xs ys : List ℕ) → Climbs low xs → Climbs low' ys
    → ((k : ℕ) → tally k xs ≡ tally k ys) → xs ≡ ys
climbing-same low low' [] [] c d alike = refl
climbing-same low low' [] (y ∷ ys) c d alike =
    absurd (omega (arith, alike y, tally-here y ys))
climbing-same low low' (x ∷ xs) [] c d alike =
    absurd (omega (arith, alike x, tally-here x xs))
climbing-same low low' (x ∷ xs) (y ∷ ys) c d alike = elim (cases_eq x y) [
  | inl e ↦
      let rest = climbing-same x y xs ys c.1 d.1
      (λ k. omega (
        arith,
        alike k,
        sum_by-cons (same k) x xs,
        sum_by-cons (same k) y ys,
        ap (same k) e,
      )) in
      λ i. e i ∷ rest i
  | inr apart ↦ elim (cases_lt x y) [
    | inl less ↦ absurd (omega (
      arith,
      alike x,
      tally-here x xs,
      tally-below y x (y ∷ ys) (omega arith, d.1) less,
    ))
    | inr more ↦ absurd (omega (
      arith,
      alike y,
      tally-here y ys,
      tally-below x y (x ∷ xs) (omega arith, c.1) (omega (arith, more, apart)),
    ))
  ]
]

-- a sorted list climbs
sorted-climbs : (low : ℕ) (xs : List ℕ) → IsNonDecreasing xs
    → ((j : ℕ) → j < length xs → low ≤ get_or xs j 0) → Climbs low xs
sorted-climbs low [] s b = tt
sorted-climbs low (x ∷ xs) s b = (
  b 0 (omega arith),
  sorted-climbs x xs (λ i j d h l. s (suc i) (suc j) d (omega (arith, h)) (omega (arith, l)))
      (λ j h. s 0 (suc j) 0 (omega arith) (omega (arith, h))),
)

-- ---- numbers that rise, each above the one before

-- numbers that rise
abbrev Rises : ℕ → List ℕ → ℕ → Type 0
Rises = Rising (λ k. k)

-- numbers that rise climb from any lower bound
rising-climbs : (low lower top : ℕ) (xs : List ℕ) → lower ≤ low → Rises low xs top
    → Climbs lower xs
rising-climbs low lower top [] h r = tt
rising-climbs low lower top (x ∷ xs) h r =
    (omega (arith, h, r.0), rising-climbs (x + 1) x top xs (omega arith) r.1)

-- where numbers rise, each stands once at most
one_at_most : (low top k : ℕ) (xs : List ℕ) → Rises low xs top → tally k xs ≤ 1
one_at_most low top k [] r = omega arith
one_at_most low top k (x ∷ xs) r = elim (cases_eq x k) [
  | inl e ↦ omega (
    arith,
    sum_by-cons (same k) x xs,
    ap (same k) e,
    same_one k,
    tally-below (x + 1) k xs (rising-climbs (x + 1) (x + 1) top xs (omega arith) r.1)
        (omega (arith, e)),
  )
  | inr e ↦ omega (arith, tally-other k x xs e, one_at_most (x + 1) top k xs r.1)
]
  where
    -- a number is the same as itself
    same_one : (k : ℕ) → same k k ≡ 1
    same_one k = ap {B = ℕ} (λ b. cond b 1 0) (eq-eqb k k refl)

-- a number that stands in a list some times is there
some_hold : (k : ℕ) (xs : List Stored)
    → (0 < tally k (map serial_of xs)) ↔ (has_serial (heap_of xs) k ≡ true)
some_hold k [] = (λ h. absurd (omega arith), λ h. absurd (cc))
some_hold k (x ∷ xs) =
    go (x.serial == k) (sum_by-cons (same k) x.serial (map serial_of xs)) (some_hold k xs)
  where
    -- whether the first has the number or not
    go : (b : Bool)
        → tally k (map serial_of (x ∷ xs)) ≡ cond b 1 0 + tally k (map serial_of xs)
        → ((0 < tally k (map serial_of xs)) ↔ (has_serial (heap_of xs) k ≡ true))
        → (0 < tally k (map serial_of (x ∷ xs))) ↔ ((b || has_serial (heap_of xs) k) ≡ true)
    go true e r = (λ h. refl, λ h. omega (arith, e))
    go false e r =
        (λ h. r.0 (omega (arith, e, h)), λ h. let some = r.1 h in omega (arith, e, some))

-- the numbers that fail a test
abbrev fails : (ℕ → Bool) → List ℕ → List ℕ
fails f xs = filter (λ x. not (f x)) xs

-- a number of them more, unless it passes
more-fails : (f : ℕ → Bool) (k x : ℕ) (xs : List ℕ) (b : Bool)
    → tally k (cond (not b) (x ∷ fails f xs) (fails f xs))
    ≡ cond b 0 (same k x) + tally k (fails f xs)
more-fails f k x xs true = omega arith
more-fails f k x xs false = sum_by-cons (same k) x (fails f xs)

-- of two tests of one number, a number that is the same counts for both alike
same_test : (f : ℕ → Bool) (k x n : ℕ)
    → cond (f x) 0 (same k x) + cond (f k) 0 n ≡ cond (f k) 0 (same k x + n)
same_test f k x n = elim (cases_eq x k) [
  | inl e ↦ ap (λ b. cond b 0 (same k x) + cond (f k) 0 n) (ap f e) ∙ go (f k) (same k x)
  | inr e ↦ ap (λ m. cond (f x) 0 m + cond (f k) 0 n) (none e) ∙ not_here (f x)
      ∙ ap (cond (f k) 0) (no_more (none e))
]
  where
    -- another number counts for nothing
    none : (x ≡ k → ⊥) → same k x ≡ 0
    none apart = ap {B = ℕ} (λ b. cond b 1 0) (ne_eqb x k apart)

    -- the same number
    go : (b : Bool) (m : ℕ) → cond b 0 m + cond b 0 n ≡ cond b 0 (m + n)
    go true m = omega arith
    go false m = refl

    -- another number
    not_here : (b : Bool) → cond b 0 0 + cond (f k) 0 n ≡ cond (f k) 0 n
    not_here true = omega arith
    not_here false = omega arith

    -- what counts for nothing adds nothing
    no_more : same k x ≡ 0 → n ≡ same k x + n
    no_more e = omega (arith, e)

-- the numbers that fail a test stand as before, and the others not at all
tally-fails : (f : ℕ → Bool) (k : ℕ) (xs : List ℕ)
    → tally k (fails f xs) ≡ cond (f k) 0 (tally k xs)
tally-fails f k [] =
    elim (f k) as (λ b. ◌≡◌ {A = ℕ} 0 (cond b 0 0)) [ true ↦ refl | false ↦ refl ]
tally-fails f k (x ∷ xs) =
    more-fails f k x xs (f x)
    ∙ ap (λ n. cond (f x) 0 (same k x) + n) (tally-fails f k xs)
    ∙ same_test f k x (tally k xs)
    ∙ ap (cond (f k) 0) (sym (sum_by-cons (same k) x xs))

-- the serials of objects stand as often as objects have them
tally-serials : (k : ℕ) (xs : List Stored)
    → tally k (map serial_of xs) ≡ sum_by (λ o. same k o.serial) xs
tally-serials k [] = refl
tally-serials k (x ∷ xs) =
    sum_by-cons (same k) x.serial (map serial_of xs)
    ∙ ap (λ n. same k x.serial + n) (tally-serials k xs)
    ∙ sym (sum_by-cons (λ (o : Stored). same k o.serial) x xs)

-- of a number that stands once at most, what is gone has what is not left
gone_or_left : (all gone left freed : ℕ) (b : Bool) → ((0 < left) ↔ (b ≡ true)) → freed ≡ gone
    → gone + left ≡ all → all ≤ 1 → freed ≡ cond b 0 all
gone_or_left all gone left freed true e a c d = let some = e.1 refl in omega (arith, a, c, d, some)
gone_or_left all gone left freed false e a c d = elim (cases_eq left 0) [
  | inl none ↦ omega (arith, a, c, none)
  | inr some ↦ absurd (clash (e.0 (omega (arith, some))))
]
  where
    -- false is not true
    clash : false ≡ true → ⊥
    clash e = cc

-- the serials of what is gone, once sorted, are those of the objects that are not left
pub gone_in_order : (node top : ℕ) (xs gone ys : List Stored) (freed : List ℕ)
    → TakenOut node xs gone ys → Rising serial_of 0 xs top
    → IsPermutation (map serial_of gone) freed → IsSorted nat_cmp freed
    → freed
    ≡ map object_serial (filter (λ x. not (has_serial (heap_of ys) x.serial)) (heap_of xs))
gone_in_order node top xs gone ys freed taken r moved sorted =
    let test : ℕ → Bool = λ k. not (has_serial (heap_of ys) k) in
    let serials = map serial_of xs in
    let rises = rising-map (λ k. k) serial_of 0 top xs r in
    climbing-same 0 0 freed (filter test serials)
    (sorted-climbs 0 freed (IsNonDecreasingBy-from_sort (λ x. x) freed sorted)
    (λ j h. omega arith))
    (rising-climbs 0 0 top (filter test serials) (omega arith)
    (rising-filter (λ k. k) test 0 top serials rises))
    (λ k.
    let parts = taken_sum (λ o. same k o.serial) node 0 top xs gone ys taken r in
    gone_or_left (tally k serials) (tally k (map serial_of gone)) (tally k (map serial_of ys))
    (tally k freed) (has_serial (heap_of ys) k) (some_hold k ys)
    (sum_by-IsPermutation (same k) (map serial_of gone) freed moved)
    (omega (arith, parts, tally-serials k gone, tally-serials k ys, tally-serials k xs))
    (one_at_most 0 top k serials rises)
    ∙ sym (tally-fails (has_serial (heap_of ys)) k serials))
    ∙ ap (filter test) (sym (map-map object_serial plain xs))
    ∙ filter-map object_serial test (heap_of xs)
