-- What one more method or class does to the codes that were read so far.
use Rattle.do_document.specs.declared.place.Place.TheVariants as at
use Rattle.std.proofs.Common.{◌≡◌, ℕ, ◌+◌, ◌<◌, ◌≤◌, List, [], ◌∷◌, ◌++◌, length, map, take, drop}
use Rattle.std.proofs.Common.{get_or, Option, Some, None, refl, sym, ◌∙◌, ap, arith, subst, zero}
use Rattle.std.proofs.Common.{suc, Result, Ok, Err, inl, inr}
use Rattle.std.specs.{List.{All, AllZip, filter_map}, Option.option_map_or}
use Rattle.std.specs.Prelude.{IfSome, codes, option_and_then, slice_get}
use Rattle.std.proofs.lemmas.List.{map-append, map_more, take_all}
use Rattle.toml.specs.Data.{Members}
use Rattle.do_script.specs.Listing.{Listing}
use Rattle.do_class.specs.Class.{Class}
use Rattle.do_class_kinds.specs.declared.kind.Kind.{Kind}
use Rattle.do_document.specs.{Checks.{first_among, first_behind}, Classes.kind_of}
use Rattle.do_document.specs.{Document.tables_at, Finding.Finds}
use Rattle.do_document.{specs.declared.fault.WorldFault.WorldFault, proofs.Finding.turn_bad}
use Rattle.do_document.proofs.{Finding.turn_good, Growing.{so_far, zip_push}, InOrder.Tells}
use Rattle.do_world.specs.Faults.{class_codes_fault, code_fault, codes_fault, kind_codes_fault}
use Rattle.do_world.specs.Faults.{method_code_fault}
use Rattle.do_world.specs.Worlds.{class_codes, codes_by, codes_of, method_code}

module _ {A : Type 0} (v : A → Members) (xs : List A) (j : ℕ) (x : A)
    (within : j < length xs) (there : x ≡ get_or xs j x) where
  count : length (map v (take j xs)) ≡ j
  count = so_far v xs j (omega (arith, within))

  -- the code of a method is checked at its own place
  code_here : (k : ℕ) (slots classes : List (List ℕ))
      → method_code_fault k slots classes (map v (take j xs)) (v (get_or xs j x))
      ≡ code_fault (at.Method k j) slots classes (v x)
  code_here k slots classes =
      ap (λ n. code_fault (at.Method k n) slots classes (v (get_or xs j x))) count
      ∙ ap (λ (z : A). code_fault (at.Method k j) slots classes (v z)) (sym there)

  -- a method's code has no fault
  pub code_turn : (k : ℕ) (slots classes : List (List ℕ)) (all : Option WorldFault)
      → first_behind (method_code_fault k slots classes) (map v (take j xs)) (map v (drop j xs))
      ≡ all
      → code_fault (at.Method k j) slots classes (v x) ≡ None
      → first_behind (method_code_fault k slots classes) (map v (take (j + 1) xs))
      (map v (drop (j + 1) xs)) ≡ all
  code_turn k slots classes all so none =
      turn_good (method_code_fault k slots classes) v xs j x all within so
      (code_here k slots classes ∙ none)

  -- what a method's table says that stands there
  pub code_said : (slots classes : List (List ℕ)) (code : Listing)
      → method_code slots classes (v x) ≡ Some code
      → method_code slots classes (v (get_or xs j x)) ≡ Some code
  code_said slots classes code said =
      subst (λ (z : A). method_code slots classes (v z) ≡ Some code) there said

  module _ (classes : List (List ℕ)) (kind : Kind) (is : kind_of (v x) ≡ Some kind) where
    -- the codes of a class are checked for its own number and kind
    codes_here : codes_fault classes (map v (take j xs)) (v (get_or xs j x))
        ≡ kind_codes_fault j classes (v x) kind
    codes_here =
        ap (λ n. option_and_then (kind_codes_fault n classes (v (get_or xs j x)))
        (kind_of (v (get_or xs j x)))) count
        ∙ ap (λ (z : A). option_and_then (kind_codes_fault j classes (v z)) (kind_of (v z)))
        (sym there)
        ∙ ap (option_and_then (kind_codes_fault j classes (v x))) is

    -- the codes of a class have no fault
    pub codes_turn : (all : Option WorldFault)
        → first_behind (codes_fault classes) (map v (take j xs)) (map v (drop j xs)) ≡ all
        → kind_codes_fault j classes (v x) kind ≡ None
        → first_behind (codes_fault classes) (map v (take (j + 1) xs)) (map v (drop (j + 1) xs))
        ≡ all
    codes_turn all so none =
        turn_good (codes_fault classes) v xs j x all within so (codes_here ∙ none)

    -- the first class with a fault in its codes has the first fault of all
    pub codes_bad : (all : Option WorldFault) (e : WorldFault)
        → first_behind (codes_fault classes) (map v (take j xs)) (map v (drop j xs)) ≡ all
        → Tells (kind_codes_fault j classes (v x) kind) e → Tells all e
    codes_bad all e so (inl m) = inl m
    codes_bad all e so (inr h) =
        inr (turn_bad (codes_fault classes) v xs j x all e within so (codes_here ∙ h))

    -- the codes of a class are those that its table says
    pub codes_said : (made : List Listing) → made ≡ codes_by classes (v x) kind
        → codes_of classes (v (get_or xs j x)) ≡ made
    codes_said made same =
        ap (λ (z : A). codes_of classes (v z)) (sym there)
        ∙ ap (λ o. option_map_or (codes_by classes (v x)) o []) is ∙ sym same

-- the codes of a class are read as those of its tables
pub codes_read : (k : ℕ) (slots classes : List (List ℕ)) (t : Members) (ts : List Members)
    (P : Listing → Type 0) (result : Result (List Listing) WorldFault)
    → ts ≡ tables_at (codes "method") t
    → Finds (first_among (method_code_fault k slots classes) ts)
    (λ made. (made ≡ filter_map (method_code slots classes) ts) × (length made ≡ length ts)
    × All P made) result
    → Finds (class_codes_fault k slots classes t)
    (λ made. (made ≡ class_codes slots classes t)
    × (length made ≡ length (tables_at (codes "method") t)) × All P made) result
unfolding class_codes_fault class_codes
codes_read k slots classes t ts P (Ok made) tables h = (
  subst (λ xs. first_among (method_code_fault k slots classes) xs ≡ None) tables h.0,
  (
    h.1.0 ∙ ap (filter_map (method_code slots classes)) tables,
    h.1.1 ∙ ap length tables,
    h.1.2,
  ),
)
codes_read k slots classes t ts P (Err e) tables (inl m) = inl m
codes_read k slots classes t ts P (Err e) tables (inr h) =
    inr (subst (λ xs. first_among (method_code_fault k slots classes) xs ≡ Some e) tables h)

-- a list goes beside another one of the same length
pub as_many : {A B C : Type 0} (R : B → C → Type 0) (v : A → B) (xs : List A) (ys : List C)
    → AllZip R (map v xs) ys → length xs ≡ length ys
as_many R v [] [] all = refl
as_many R v [] (y ∷ ys) all = absurd all
as_many R v (x ∷ xs) [] all = absurd all
as_many R v (x ∷ xs) (y ∷ ys) all =
    let rest : length xs ≡ length ys = as_many R v xs ys all.1 in omega (arith, rest)

-- what goes beside an item
beside : {A B C : Type 0} (R : B → C → Type 0) (v : A → B) (xs : List A) (ys : List C) (k : ℕ)
    (x : A) → AllZip R (map v xs) ys → k < length xs
    → IfSome (slice_get ys k) (R (v (get_or xs k x)))
beside R v [] ys k x all within = absurd (omega (arith, within))
beside R v (w ∷ ws) [] k x all within = absurd all
beside R v (w ∷ ws) (y ∷ ys) zero x all within = all.0
beside R v (w ∷ ws) (y ∷ ys) (suc k) x all within =
    beside R v ws ys k x all.1 (omega (arith, within))

-- the same of an item that was found
pub found_beside : {A B C : Type 0} (R : B → C → Type 0) (v : A → B) (xs : List A) (ys : List C)
    (k : ℕ) (x : A) → AllZip R (map v xs) ys → k < length xs → x ≡ get_or xs k x
    → IfSome (slice_get ys k) (R (v x))
found_beside {A} R v xs ys k x all within at =
    subst (λ (z : A). IfSome (slice_get ys k) (R (v z))) (sym at) (beside R v xs ys k x all within)

-- what goes beside an item, by its place in the other list
beside_at : {A B C : Type 0} (R : B → C → Type 0) (v : A → B) (xs : List A) (ys : List C) (k : ℕ)
    (x : A) (y : C) → AllZip R (map v xs) ys → k < length xs
    → R (v (get_or xs k x)) (get_or ys k y)
beside_at R v [] ys k x y all within = absurd (omega (arith, within))
beside_at R v (w ∷ ws) [] k x y all within = absurd all
beside_at R v (w ∷ ws) (z ∷ zs) zero x y all within = all.0
beside_at R v (w ∷ ws) (z ∷ zs) (suc k) x y all within =
    beside_at R v ws zs k x y all.1 (omega (arith, within))

-- the same of an item that was found
pub found_at : {A B C : Type 0} (R : B → C → Type 0) (v : A → B) (xs : List A) (ys : List C)
    (k : ℕ) (x : A) (y : C) → AllZip R (map v xs) ys → k < length xs → x ≡ get_or xs k x
    → R (v x) (get_or ys k y)
found_at {A} R v xs ys k x y all within at =
    subst (λ (z : A). R (v z) (get_or ys k y)) (sym at) (beside_at R v xs ys k x y all within)

-- the first items with one more
take_suc : {X : Type 0} (xs : List X) (k : ℕ) (x : X) → slice_get xs k ≡ Some x
    → take (suc k) xs ≡ take k xs ++ x ∷ []
take_suc [] k x is = cc
take_suc (y ∷ ys) zero x is = cc
take_suc (y ∷ ys) (suc k) x is = ap (λ zs. y ∷ zs) (take_suc ys k x is)

-- the first items with one more, by its number
pub take_one : {X : Type 0} (xs : List X) (k : ℕ) (x : X) → slice_get xs k ≡ Some x
    → take (k + 1) xs ≡ take k xs ++ x ∷ []
take_one xs k x is =
    let more : k + 1 ≡ suc k = omega arith in ap (λ n. take n xs) more ∙ take_suc xs k x is

-- past the end there is no item
pub past_end : {X : Type 0} (xs : List X) (k : ℕ) → slice_get xs k ≡ None → length xs ≤ k
past_end [] k none = omega arith
past_end (x ∷ xs) zero none = cc
past_end (x ∷ xs) (suc k) none = let rest = past_end xs k none in omega (arith, rest)

-- one more beside those so far, by what stands at its place
suit_by : {X Y : Type 0} (R : Y → X → Type 0) (made : List Y) (xs : List X) (k : ℕ) (y : Y)
    (o : Option X) → slice_get xs k ≡ o → k < length xs → AllZip R made (take k xs)
    → IfSome o (R y) → AllZip R (made ++ y ∷ []) (take (k + 1) xs)
suit_by R made xs k y None at within all r =
    let past = past_end xs k at in absurd (omega (arith, past, within))
suit_by {X} {Y} R made xs k y (Some x) at within all r =
    subst (λ (zs : List X). AllZip R (made ++ y ∷ []) zs) (sym (take_one xs k x at))
    (zip_push R made (take k xs) y x all r)

-- the codes of one class more suit the classes so far
pub suit_more : {X Y : Type 0} (R : Y → X → Type 0) (made : List Y) (xs : List X) (k : ℕ) (y : Y)
    → k < length xs → AllZip R made (take k xs) → IfSome (slice_get xs k) (R y)
    → AllZip R (made ++ y ∷ []) (take (k + 1) xs)
suit_more R made xs k y within all r =
    suit_by R made xs k y (slice_get xs k) refl within all r

-- the codes of one class more are those of its table
pub codes_more : {A : Type 0} (v : A → Members) (xs : List A) (k : ℕ) (x : A)
    (names : List (List ℕ)) (made : List (List Listing)) (codes : List Listing) → k < length xs
    → made ≡ map (codes_of names) (map v (take k xs)) → codes_of names (v (get_or xs k x)) ≡ codes
    → made ++ codes ∷ [] ≡ map (codes_of names) (map v (take (k + 1) xs))
codes_more v xs k x names made codes within so said =
    sym (ap (map (codes_of names)) (map_more v xs k x within)
    ∙ map-append (codes_of names) (map v (take k xs)) (v (get_or xs k x) ∷ [])
    ∙ ap (λ ys. ys ++ codes_of names (v (get_or xs k x)) ∷ []) (sym so)
    ∙ ap (λ c. made ++ c ∷ []) said)

-- behind the last class all are made and suit
pub codes_all : {A : Type 0} (v : A → Members) (xs : List A) (cs : List Class) (k : ℕ)
    (names : List (List ℕ)) (made : List (List Listing)) (R : List Listing → Class → Type 0)
    → length xs ≤ k → length xs ≡ length cs → made ≡ map (codes_of names) (map v (take k xs))
    → AllZip R made (take k cs)
    → (made ≡ map (codes_of names) (map v xs)) × AllZip R made cs
codes_all {A} v xs cs k names made R past same so all =
    let whole = take_all k xs past in
    let few : length cs ≤ k = omega (arith, past, same) in (
      so ∙ ap (λ (ys : List A). map (codes_of names) (map v ys)) whole,
      subst (λ ds. AllZip R made ds) (take_all k cs few) all,
    )
