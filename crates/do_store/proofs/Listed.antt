-- The listed objects, where one of the slots or one of the pairs changes.
use Rattle.std.proofs.Common.{◌≡◌, ◌≢◌, ◌⊎◌, ℕ, zero, suc, ◌+◌, ◌<◌, ◌≤◌, cond, eqb, eq-eqb, ne_eqb}
use Rattle.std.proofs.Common.{List, [], ◌∷◌, ◌++◌, length, get_or, Option, Some, None, Contains}
use Rattle.std.proofs.Common.{refl, sym, ap, ◌∙◌, subst, inl, inr, arith, append-nil, append_assoc}
use Rattle.std.specs.List.{flat_map}
use Rattle.std.proofs.lemmas.{Bool.{cases_eq, cases_order}, List.get_or_default}
use Rattle.slab.proofs.SlabLemmas.{Contains-cons_cases, Contains-cons}
use Rattle.do_store.specs.{Objects.{stored_at, edit}, Listing.{Rising, pair_serial, live, live_in}}
use Rattle.do_store.specs.{Listing.listed, declared.object.{Object.Object, Pair.Pair}}

module _ {X : Type 0} (key : X → ℕ) where
  -- a rising list rises from a lower bound too
  pub rising-lower : (low low' top : ℕ) (xs : List X) → low' ≤ low → Rising key low xs top
      → Rising key low' xs top
  rising-lower low low' top [] below rising = let r : low ≤ top = rising in omega arith
  rising-lower low low' top (x ∷ xs) below rising = let r : low ≤ key x = rising.0 in
      (omega arith, rising.1)

  -- a rising list begins below its bound
  pub rising-top : (low top : ℕ) (xs : List X) → Rising key low xs top → low ≤ top
  rising-top low top [] rising = rising
  rising-top low top (x ∷ xs) rising = let r : low ≤ key x = rising.0 in
      let s = rising-top (key x + 1) top xs rising.1 in omega arith

  -- no more items rise than there are numbers between the bounds
  pub rising-many : (low top : ℕ) (xs : List X) → Rising key low xs top → low + length xs ≤ top
  rising-many low top [] rising = let r : low ≤ top = rising in omega arith
  rising-many low top (x ∷ xs) rising = let r : low ≤ key x = rising.0 in
      let s = rising-many (key x + 1) top xs rising.1 in omega arith

  -- each key lies between the bounds
  pub rising-at : (low top : ℕ) (xs : List X) (j : ℕ) (d : X) → Rising key low xs top
      → j < length xs → (low ≤ key (get_or xs j d)) × (key (get_or xs j d) < top)
  rising-at low top [] j d rising below = absurd (omega arith)
  rising-at low top (x ∷ xs) zero d rising below = let s = rising-top (key x + 1) top xs rising.1 in
      (rising.0, omega arith)
  rising-at low top (x ∷ xs) (suc j) d rising below =
      let r : low ≤ key x = rising.0 in
      let s = rising-at (key x + 1) top xs j d rising.1 (omega arith) in
      (omega arith, s.1)

  -- of two places, the first has the lower key
  pub rising-lt : (low top : ℕ) (xs : List X) (i j : ℕ) (d e : X) → Rising key low xs top → i < j
      → j < length xs → key (get_or xs i d) < key (get_or xs j e)
  rising-lt low top [] i j d e rising before below = absurd (omega arith)
  rising-lt low top (x ∷ xs) i zero d e rising before below = absurd (omega arith)
  rising-lt low top (x ∷ xs) zero (suc j) d e rising before below = let s =
      rising-at (key x + 1) top xs j e rising.1 (omega arith) in omega arith
  rising-lt low top (x ∷ xs) (suc i) (suc j) d e rising before below =
      rising-lt (key x + 1) top xs i j d e rising.1 (omega arith) (omega arith)

  -- a higher key may stand at the end
  pub rising-snoc : (low top top' : ℕ) (xs : List X) (y : X) → Rising key low xs top → top ≤ key y
      → key y < top' → Rising key low (xs ++ y ∷ []) top'
  rising-snoc low top top' [] y rising above below = let r : low ≤ top = rising in
      (omega arith, omega arith)
  rising-snoc low top top' (x ∷ xs) y rising above below =
      (rising.0, rising-snoc (key x + 1) top top' xs y rising.1 above below)

  -- two members with one key are one
  pub rising-unique : (low top : ℕ) (xs : List X) (x y : X) → Rising key low xs top → Contains xs x
      → Contains xs y → key x ≡ key y → x ≡ y
  rising-unique low top xs x y rising p q same =
      elim (cases_order p.0 q.0) [
        | inl equal ↦
            let at : ℕ → X = λ k. get_or xs k y in
            sym p.2 ∙ get_or_default xs p.0 x y p.1 ∙ ap at equal ∙ q.2
        | inr apart ↦ absurd (elim apart [
          | inl before ↦ let s = rising-lt low top xs p.0 q.0 x y rising before q.1 in
              let a : key (get_or xs p.0 x) ≡ key x = ap key p.2 in
              let b : key (get_or xs q.0 y) ≡ key y = ap key q.2 in omega arith
          | inr after ↦ let s = rising-lt low top xs q.0 p.0 y x rising after p.1 in
              let a : key (get_or xs p.0 x) ≡ key x = ap key p.2 in
              let b : key (get_or xs q.0 y) ≡ key y = ap key q.2 in omega arith
        ])
      ]

-- the first object with another serial does not matter
pub stored-here : (o : Object) (os : List Object) (n : ℕ) → o.serial ≡ n
    → stored_at (o ∷ os) n ≡ Some o
stored-here o os n same = rw (eq-eqb o.serial n same) refl

-- an object with another serial is passed over
pub stored-later : (o : Object) (os : List Object) (n : ℕ) → o.serial ≢ n
    → stored_at (o ∷ os) n ≡ stored_at os n
stored-later o os n other = rw (ne_eqb o.serial n other) refl

-- what a pair leads to is that object, or nothing
pub live-here : (at : ℕ → Option Object) (p : Pair) (o : Object) → at p.key ≡ Some o
    → o.serial ≡ p.serial → live at p ≡ o ∷ []
live-here at p o found same = ap (live_in p.serial) found
    ∙ ap (λ b. cond b (o ∷ []) []) (eq-eqb o.serial p.serial same)

-- a pair whose key leads to another's object lists nothing
pub live-other : (at : ℕ → Option Object) (p : Pair) (o : Object) → at p.key ≡ Some o
    → o.serial ≢ p.serial → live at p ≡ []
live-other at p o found other = ap (live_in p.serial) found
    ∙ ap (λ b. cond b (o ∷ []) []) (ne_eqb o.serial p.serial other)

-- a pair whose key leads to nothing lists nothing
pub live-none : (at : ℕ → Option Object) (p : Pair) → at p.key ≡ None → live at p ≡ []
live-none at p none = ap (live_in p.serial) none

-- the two cases of a pair
pub live-cases : (at : ℕ → Option Object) (p : Pair)
    → ((o : Object) × (at p.key ≡ Some o) × (o.serial ≡ p.serial) × (live at p ≡ o ∷ []))
    ⊎ (live at p ≡ [])
live-cases at p = by_option (at p.key) refl
  where
    -- whether or not there is an object
    by_option : (slot : Option Object) → at p.key ≡ slot
        → ((o : Object) × (at p.key ≡ Some o) × (o.serial ≡ p.serial) × (live at p ≡ o ∷ []))
        ⊎ (live at p ≡ [])
    by_option None found = inr (live-none at p found)
    by_option (Some o) found = elim (cases_eq o.serial p.serial) [
      | inl same ↦ inl (o, found, same, live-here at p o found same)
      | inr other ↦ inr (live-other at p o found other)
    ]

-- a list made of two parts is mapped part by part
pub flat_map-append : {X Y : Type 0} (f : X → List Y) (xs ys : List X)
    → flat_map f (xs ++ ys) ≡ flat_map f xs ++ flat_map f ys
flat_map-append f [] ys = refl
flat_map-append f (x ∷ xs) ys = ap (λ rest. f x ++ rest) (flat_map-append f xs ys)
    ∙ sym (append_assoc (f x) (flat_map f xs) (flat_map f ys))

-- objects are listed by rising serial
pub rising-listed : (at : ℕ → Option Object) (low top : ℕ) (pairs : List Pair)
    → Rising pair_serial low pairs top → Rising (λ (o : Object). o.serial) low (listed at pairs) top
rising-listed at low top [] rising = rising
rising-listed at low top (p ∷ ps) rising =
    let rest = rising-listed at (p.serial + 1) top ps rising.1 in
    let above : low ≤ p.serial = rising.0 in
    elim (live-cases at p) [
      | inl found ↦
          let o = found.0 in
          let same : o.serial ≡ p.serial = found.2 in
          let P : ℕ → Type 0 = λ n. Rising (λ (o : Object). o.serial) (n + 1) (listed at ps) top in
          rw found.3 (omega arith, subst P (sym same) rest)
      | inr none ↦ rw none
          (rising-lower (λ (o : Object). o.serial) (p.serial + 1) low top (listed at ps)
          (omega arith) rest)
    ]

-- what the front does not have is found behind it
pub stored-append : (xs ys : List Object) (n : ℕ) → stored_at xs n ≡ None
    → stored_at (xs ++ ys) n ≡ stored_at ys n
stored-append [] ys n none = refl
stored-append (x ∷ xs) ys n none =
    elim (cases_eq x.serial n) [
      | inl same ↦ let some = stored-here x xs n same in absurd (cc)
      | inr other ↦ stored-later x (xs ++ ys) n other
          ∙ stored-append xs ys n (sym (stored-later x xs n other) ∙ none)
    ]

-- where no pair leads to an object with this serial, it is not stored
pub stored-absent : (at : ℕ → Option Object) (pairs : List Pair) (n : ℕ)
    → ((p : Pair) → Contains pairs p → p.serial ≡ n → live at p ≡ [])
    → stored_at (listed at pairs) n ≡ None
stored-absent at [] n dead = refl
stored-absent at (p ∷ ps) n dead =
    let rest = stored-absent at ps n (λ q member same. dead q (Contains-cons p q ps member) same) in
    elim (live-cases at p) [
      | inl found ↦
          elim (cases_eq p.serial n) [
            | inl same ↦ let none = dead p (0, omega arith, refl) same in rw none rest
            | inr other ↦
                rw found.3 (stored-later found.0 (listed at ps) n (λ e. other (sym found.2 ∙ e))
                ∙ rest)
          ]
      | inr none ↦ rw none rest
    ]

-- the object that a pair leads to is the one with its serial
pub stored-found : (at : ℕ → Option Object) (low top : ℕ) (pairs : List Pair) (p : Pair)
    (o : Object) → Rising pair_serial low pairs top → Contains pairs p → at p.key ≡ Some o
    → o.serial ≡ p.serial → stored_at (listed at pairs) p.serial ≡ Some o
stored-found at low top [] p o rising member found same = absurd (omega (arith, member.1))
stored-found at low top (h ∷ ps) p o rising member found same =
    elim (Contains-cons_cases h p ps member) [
      | inl here ↦
          let P : Pair → Type 0 = λ q. stored_at (live at q ++ listed at ps) p.serial ≡ Some o in
          subst P (sym here)
          (rw (live-here at p o found same) (stored-here o (listed at ps) p.serial same))
      | inr there ↦
          let rest = stored-found at (h.serial + 1) top ps p o rising.1 there found same in
          let above = rising-at pair_serial (h.serial + 1) top ps there.0 p rising.1 there.1 in
          let is : (get_or ps there.0 p).serial ≡ p.serial = ap (λ (q : Pair). q.serial) there.2 in
          elim (live-cases at h) [
            | inl first ↦ let s : first.0.serial ≡ h.serial = first.2 in
                rw first.3 (stored-later first.0 (listed at ps) p.serial (λ e. omega arith) ∙ rest)
            | inr none ↦ rw none rest
          ]
    ]

-- where no object has the serial, an edit changes nothing
pub edit-absent : (n : ℕ) (by : Object → List Object) (xs : List Object) → stored_at xs n ≡ None
    → edit n by xs ≡ xs
edit-absent n by [] none = refl
edit-absent n by (x ∷ xs) none =
    elim (cases_eq x.serial n) [
      | inl same ↦ let some = stored-here x xs n same in absurd (cc)
      | inr other ↦ ap (λ b. cond b (by x) (x ∷ []) ++ edit n by xs) (ne_eqb x.serial n other)
          ∙ ap (λ rest. x ∷ rest) (edit-absent n by xs (sym (stored-later x xs n other) ∙ none))
    ]

-- an edit of what each pair leads to is an edit of the list
pub listed-edit : (at at' : ℕ → Option Object) (pairs : List Pair) (n : ℕ)
    (by : Object → List Object)
    → ((p : Pair) → Contains pairs p → live at' p ≡ edit n by (live at p))
    → listed at' pairs ≡ edit n by (listed at pairs)
listed-edit at at' [] n by each = refl
listed-edit at at' (p ∷ ps) n by each =
    let here = each p (0, omega arith, refl) in
    let rest = listed-edit at at' ps n by (λ q member. each q (Contains-cons p q ps member)) in
    let split = flat_map-append (λ (o : Object). cond (eqb o.serial n) (by o) (o ∷ [])) (live at p)
    (listed at ps) in
    ap (λ l. l ++ listed at' ps) here ∙ ap (λ l. edit n by (live at p) ++ l) rest ∙ sym split

-- what is known where the slot of a stored object changed
pub record Edited (at at' : ℕ → Option Object) (pairs : List Pair) (n k : ℕ) (o : Object)
    (by : Object → List Object) : Type 0 where
  pub member : Contains pairs (record { serial = n; key = k })
  pub found : at k ≡ Some o
  -- the object has the serial
  pub same : o.serial ≡ n
  -- any other object is found as before
  pub others : (j : ℕ) → j ≢ k → at' j ≡ at j
  pub here : live_in n (at' k) ≡ by o
  pub elsewhere : (m : ℕ) → m ≢ n → live_in m (at' k) ≡ []

-- each pair leads to what it led to, edited
pub one_live : (at at' : ℕ → Option Object) (top : ℕ) (pairs : List Pair) (n k : ℕ) (o : Object)
    (by : Object → List Object) → Rising pair_serial 0 pairs top → Edited at at' pairs n k o by
    → (p : Pair) → Contains pairs p → live at' p ≡ edit n by (live at p)
one_live at at' top pairs n k o by rising edited p member =
    elim (cases_eq p.serial n) [
      | inl same ↦
          let whole : Pair = record { serial = n; key = k } in
          let is : p ≡ whole =
          rising-unique pair_serial 0 top pairs p whole rising member edited.member same in
          let P : Pair → Type 0 = λ q. live at' q ≡ edit n by (live at q) in
          subst P (sym is) (edited.here ∙ sym (append-nil (by o))
          ∙ ap (λ b. cond b (by o) (o ∷ []) ++ []) (sym (eq-eqb o.serial n edited.same))
          ∙ ap (edit n by) (sym (live-here at whole o edited.found edited.same)))
      | inr other ↦ elim (cases_eq p.key k) [
        | inl same ↦
            ap (λ j. live_in p.serial (at' j)) same ∙ edited.elsewhere p.serial other
            ∙ ap (edit n by)
            (sym (live-other at p o (ap at same ∙ edited.found)
            (λ e. other (sym e ∙ edited.same))))
        | inr apart ↦ ap (live_in p.serial) (edited.others p.key apart) ∙ kept other
      ]
    ]
  where
    -- another pair leads to what it led to
    kept : p.serial ≢ n → live at p ≡ edit n by (live at p)
    kept other = elim (live-cases at p) [
      | inl found ↦
          rw found.3 (ap (λ b. cond b (by found.0) (found.0 ∷ []) ++ [])
          (sym (ne_eqb found.0.serial n (λ e. other (sym found.2 ∙ e)))))
      | inr none ↦ rw none refl
    ]

-- where a slot changed, the list is edited at that object
pub listed-edited : (at at' : ℕ → Option Object) (top : ℕ) (pairs : List Pair) (n k : ℕ)
    (o : Object) (by : Object → List Object) → Rising pair_serial 0 pairs top
    → Edited at at' pairs n k o by → listed at' pairs ≡ edit n by (listed at pairs)
listed-edited at at' top pairs n k o by rising edited =
    listed-edit at at' pairs n by (one_live at at' top pairs n k o by rising edited)

-- a new object stands at the end
pub listed-same : (at at' : ℕ → Option Object) (pairs : List Pair)
    → ((p : Pair) → Contains pairs p → live at' p ≡ live at p) → listed at' pairs ≡ listed at pairs
listed-same at at' [] each = refl
listed-same at at' (p ∷ ps) each =
    ap (λ l. l ++ listed at' ps) (each p (0, omega arith, refl))
    ∙ ap (λ l. live at p ++ l)
    (listed-same at at' ps (λ q member. each q (Contains-cons p q ps member)))

-- a pair more, at a key that was free, lists its object at the end
pub listed-added : (at at' : ℕ → Option Object) (pairs : List Pair) (n k : ℕ) (o : Object)
    → Rising pair_serial 0 pairs n → at k ≡ None → at' k ≡ Some o → o.serial ≡ n
    → ((j : ℕ) → j ≢ k → at' j ≡ at j) → listed at' (pairs ++ record { serial = n; key = k } ∷ [])
    ≡ listed at pairs ++ o ∷ []
listed-added at at' pairs n k o rising fresh found same others =
    flat_map-append (live at') pairs (record { serial = n; key = k } ∷ [])
    ∙ ap (λ l. l ++ (live at' (record { serial = n; key = k }) ++ []))
    (listed-same at at' pairs each)
    ∙ ap (λ l. listed at pairs ++ (l ++ []))
    (live-here at' (record { serial = n; key = k }) o found same)
  where
    -- every other pair leads to what it led to
    each : (p : Pair) → Contains pairs p → live at' p ≡ live at p
    each p member =
        let below = rising-at pair_serial 0 n pairs member.0 p rising member.1 in
        let is : (get_or pairs member.0 p).serial ≡ p.serial =
        ap (λ (q : Pair). q.serial) member.2 in
        elim (cases_eq p.key k) [
          | inl here ↦ live-other at' p o (ap at' here ∙ found) (λ e. omega arith)
              ∙ sym (live-none at p (ap at here ∙ fresh))
          | inr apart ↦ ap (live_in p.serial) (others p.key apart)
        ]

-- there are no more objects than pairs
pub length-listed : (at : ℕ → Option Object) (pairs : List Pair)
    → length (listed at pairs) ≤ length pairs
length-listed at [] = omega arith
length-listed at (p ∷ ps) =
    let rest = length-listed at ps in
    elim (live-cases at p) [
      | inl found ↦ rw found.3 (omega arith)
      | inr none ↦ rw none (omega arith)
    ]

-- a serial with no pair, or whose pair leads to nothing, is not stored
pub absent-unpaired : (at : ℕ → Option Object) (pairs : List Pair) (n : ℕ)
    → ((j : ℕ) (d : Pair) → j < length pairs → (get_or pairs j d).serial ≢ n)
    → stored_at (listed at pairs) n ≡ None
absent-unpaired at pairs n none =
    stored-absent at pairs n
    (λ p member same.
    absurd (none member.0 p member.1 (ap (λ (q : Pair). q.serial) member.2 ∙ same)))

-- a serial whose pair leads to nothing is not stored
pub absent-dead : (at : ℕ → Option Object) (top : ℕ) (pairs : List Pair) (n k : ℕ)
    → Rising pair_serial 0 pairs top → Contains pairs (record { serial = n; key = k })
    → live_in n (at k) ≡ [] → stored_at (listed at pairs) n ≡ None
absent-dead at top pairs n k rising paired dead =
    stored-absent at pairs n (λ p member same.
    let whole : Pair = record { serial = n; key = k } in
    let is : p ≡ whole = rising-unique pair_serial 0 top pairs p whole rising member paired same in
    ap (live at) is ∙ dead)
