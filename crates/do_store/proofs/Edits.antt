-- An edit of the one object with a serial.
use Rattle.std.proofs.Common.{◌≡◌, ◌≢◌, ℕ, ◌+◌, ◌<◌, ◌≤◌, cond, eqb, eq-eqb, ne_eqb, List, [], ◌∷◌}
use Rattle.std.proofs.Common.{◌++◌, length, map, Some, None, refl, sym, ap, ◌∙◌, inl, inr, arith}
use Rattle.std.proofs.{Common.{sum_by, length-append}, lemmas.{Bool.cases_eq, List.map-append}}
use Rattle.std.proofs.lemmas.List.Sums.{sum_by-cons, sum_by-append}
use Rattle.do_store.specs.{Objects.{stored_at, edit}, Names.{Stored, replaced}, Books.seen}
use Rattle.do_store.specs.{Listing.{Rising, object_serial}, declared.object.Object.Object}
use Rattle.do_store.proofs.Listed.{stored-here, stored-later, edit-absent}

-- nothing below the least serial is stored
pub stored-below : (low top n : ℕ) (xs : List Object) → Rising object_serial low xs top → n < low
    → stored_at xs n ≡ None
stored-below low top n [] rising below = refl
stored-below low top n (x ∷ xs) rising below =
    let r : low ≤ x.serial = rising.0 in
    stored-later x xs n (λ e. omega arith)
    ∙ stored-below (x.serial + 1) top n xs rising.1 (omega arith)

-- nothing from the next serial on is stored
pub stored-above : (low top n : ℕ) (xs : List Object) → Rising object_serial low xs top → top ≤ n
    → stored_at xs n ≡ None
stored-above low top n [] rising above = refl
stored-above low top n (x ∷ xs) rising above =
    let rest = stored-above (x.serial + 1) top n xs rising.1 above in
    let least = top_of (x.serial + 1) xs rising.1 in
    stored-later x xs n (λ e. omega arith) ∙ rest
  where
    -- a rising list begins below its bound
    top_of : (l : ℕ) (ys : List Object) → Rising object_serial l ys top → l ≤ top
    top_of l [] r = r
    top_of l (y ∷ ys) r = let a : l ≤ y.serial = r.0 in let b = top_of (y.serial + 1) ys r.1 in
        omega arith

-- the object found by a serial has it
pub stored-serial : (xs : List Object) (n : ℕ) (o : Object) → stored_at xs n ≡ Some o → o.serial ≡ n
stored-serial [] n o is = absurd (cc)
stored-serial (x ∷ xs) n o is =
    elim (cases_eq x.serial n) [
      | inl same ↦ let here = stored-here x xs n same in let eq : x ≡ o = cc in
          ap (λ (y : Object). y.serial) (sym eq) ∙ same
      | inr other ↦ stored-serial xs n o (sym (stored-later x xs n other) ∙ is)
    ]

-- an edit of the first object replaces it
edit-here : (x : Object) (xs : List Object) (n : ℕ) (by : Object → List Object) → x.serial ≡ n
    → edit n by (x ∷ xs) ≡ by x ++ edit n by xs
edit-here x xs n by same = ap (λ b. cond b (by x) (x ∷ []) ++ edit n by xs) (eq-eqb x.serial n same)

-- an edit of another object leaves the first one
edit-later : (x : Object) (xs : List Object) (n : ℕ) (by : Object → List Object) → x.serial ≢ n
    → edit n by (x ∷ xs) ≡ x ∷ edit n by xs
edit-later x xs n by other =
    ap (λ b. cond b (by x) (x ∷ []) ++ edit n by xs) (ne_eqb x.serial n other)

-- the list splits at the object
pub record Split (xs : List Object) (n : ℕ) (o : Object) : Type 0 where
  pub front : List Object
  pub back : List Object
  pub whole : xs ≡ front ++ o ∷ back
  pub edits : (by : Object → List Object) → edit n by xs ≡ front ++ (by o ++ back)
  pub before : stored_at front n ≡ None
  pub after : stored_at back n ≡ None

-- a rising list splits at each object that is stored
pub split_at : (low top : ℕ) (xs : List Object) (n : ℕ) (o : Object)
    → Rising object_serial low xs top → stored_at xs n ≡ Some o → Split xs n o
split_at low top [] n o rising is = absurd (cc)
split_at low top (x ∷ xs) n o rising is =
    elim (cases_eq x.serial n) [
      | inl same ↦
          let here = stored-here x xs n same in
          let eq : x ≡ o = cc in
          let none = stored-below (x.serial + 1) top n xs rising.1 (omega arith) in
          record {
            front = [];
            back = xs;
            whole = ap (λ y. y ∷ xs) eq;
            edits = λ by. edit-here x xs n by same ∙ ap (λ l. by x ++ l) (edit-absent n by xs none)
                ∙ ap (λ y. by y ++ xs) eq;
            before = refl;
            after = none;
          }
      | inr other ↦
          let s = split_at (x.serial + 1) top xs n o rising.1 (sym (stored-later x xs n other) ∙ is)
          in
          record {
            front = x ∷ s.front;
            back = s.back;
            whole = ap (λ l. x ∷ l) s.whole;
            edits = λ by. edit-later x xs n by other ∙ ap (λ l. x ∷ l) (s.edits by);
            before = stored-later x s.front n other ∙ s.before;
            after = s.after;
          }
    ]

-- a sum over the list, where the object was edited
pub sum-edit : (g : Object → ℕ) (xs : List Object) (n : ℕ) (o : Object) (s : Split xs n o)
    (by : Object → List Object) → sum_by g (edit n by xs) + g o ≡ sum_by g xs + sum_by g (by o)
sum-edit g xs n o s by =
    let a = ap (sum_by g) (s.edits by) in
    let b = sum_by-append g s.front (by o ++ s.back) in
    let c = sum_by-append g (by o) s.back in
    let d = ap (sum_by g) s.whole in
    let e = sum_by-append g s.front (o ∷ s.back) in
    let f = sum_by-cons g o s.back in
    omega arith

-- a look-up in a list whose middle does not matter
stored-middle : (xs ms ms' ys : List Object) (k : ℕ)
    → ((zs : List Object) → stored_at (ms ++ zs) k ≡ stored_at zs k)
    → ((zs : List Object) → stored_at (ms' ++ zs) k ≡ stored_at zs k)
    → stored_at (xs ++ (ms ++ ys)) k ≡ stored_at (xs ++ (ms' ++ ys)) k
stored-middle [] ms ms' ys k a b = a ys ∙ sym (b ys)
stored-middle (x ∷ xs) ms ms' ys k a b =
    ap (λ o. cond (eqb x.serial k) (Some x) o) (stored-middle xs ms ms' ys k a b)

-- an edit that keeps the serial leaves look-ups of other serials
pub stored-edit_other : (xs : List Object) (n k : ℕ) (o : Object) (s : Split xs n o)
    (by : Object → List Object) → o.serial ≡ n → k ≢ n
    → ((zs : List Object) → stored_at (by o ++ zs) k ≡ stored_at zs k)
    → stored_at (edit n by xs) k ≡ stored_at xs k
stored-edit_other xs n k o s by same other skips =
    ap (λ l. stored_at l k) (s.edits by)
    ∙ stored-middle s.front (by o) (o ∷ []) s.back k skips
    (λ zs. stored-later o zs k (λ e. other (sym e ∙ same)))
    ∙ ap (λ l. stored_at l k) (sym s.whole)

-- an edited object is found by its serial
pub stored-edit_same : (xs : List Object) (n : ℕ) (o o' : Object) (s : Split xs n o)
    (by : Object → List Object) → by o ≡ o' ∷ [] → o'.serial ≡ n
    → stored_at (edit n by xs) n ≡ Some o'
stored-edit_same xs n o o' s by is same =
    ap (λ l. stored_at l n) (s.edits by) ∙ ap (λ l. stored_at (s.front ++ (l ++ s.back)) n) is
    ∙ past s.front s.before
  where
    -- a look-up passes over the objects before
    past : (fs : List Object) → stored_at fs n ≡ None → stored_at (fs ++ o' ∷ s.back) n ≡ Some o'
    past [] none = stored-here o' s.back n same
    past (f ∷ fs) none =
        elim (cases_eq f.serial n) [
          | inl e ↦ let some = stored-here f fs n e in absurd (cc)
          | inr e ↦ stored-later f (fs ++ o' ∷ s.back) n e
              ∙ past fs (sym (stored-later f fs n e) ∙ none)
        ]

-- an object that was taken out is not found
pub stored-edit_gone : (xs : List Object) (n : ℕ) (o : Object) (s : Split xs n o)
    → stored_at (edit n (λ p. []) xs) n ≡ None
stored-edit_gone xs n o s = ap (λ l. stored_at l n) (s.edits (λ p. [])) ∙ past s.front s.before
  where
    -- a look-up passes over the objects before
    past : (fs : List Object) → stored_at fs n ≡ None → stored_at (fs ++ s.back) n ≡ None
    past [] none = s.after
    past (f ∷ fs) none =
        elim (cases_eq f.serial n) [
          | inl e ↦ let some = stored-here f fs n e in absurd (cc)
          | inr e ↦ stored-later f (fs ++ s.back) n e ∙ past fs (sym (stored-later f fs n e) ∙ none)
        ]

-- what a caller sees of an edit
pub seen-edit : (xs : List Object) (n : ℕ) (by : Object → List Object) (by' : Stored → List Stored)
    → ((x : Object) → stored_at xs n ≡ Some x → map seen (by x) ≡ by' (seen x)) → (low top : ℕ)
    → Rising object_serial low xs top → map seen (edit n by xs) ≡ replaced n by' (map seen xs)
seen-edit [] n by by' same low top rising = refl
seen-edit (x ∷ xs) n by by' same low top rising =
    elim (cases_eq x.serial n) [
      | inl e ↦
          let none = stored-below (x.serial + 1) top n xs rising.1 (omega arith) in
          let rest = seen-edit xs n by by' (λ y is. absurd (cc)) (x.serial + 1) top rising.1 in
          ap (map seen) (edit-here x xs n by e) ∙ map-append seen (by x) (edit n by xs)
          ∙ ap (λ l. l ++ map seen (edit n by xs)) (same x (stored-here x xs n e))
          ∙ ap (λ l. by' (seen x) ++ l) rest
          ∙ ap (λ b. cond b (by' (seen x)) (seen x ∷ []) ++ replaced n by' (map seen xs))
          (sym (eq-eqb x.serial n e))
      | inr e ↦
          let rest = seen-edit xs n by by' (λ y is. same y (stored-later x xs n e ∙ is))
          (x.serial + 1) top rising.1 in
          ap (map seen) (edit-later x xs n by e) ∙ ap (λ l. seen x ∷ l) rest
          ∙ ap (λ b. cond b (by' (seen x)) (seen x ∷ []) ++ replaced n by' (map seen xs))
          (sym (ne_eqb x.serial n e))
    ]

-- an edit that a caller does not see
pub seen-same : (xs : List Object) (n : ℕ) (o : Object) (s : Split xs n o)
    (by : Object → List Object) → map seen (by o) ≡ seen o ∷ []
    → map seen (edit n by xs) ≡ map seen xs
seen-same xs n o s by same =
    ap (map seen) (s.edits by) ∙ map-append seen s.front (by o ++ s.back)
    ∙ ap (λ l. map seen s.front ++ l) (map-append seen (by o) s.back)
    ∙ ap (λ l. map seen s.front ++ (l ++ map seen s.back)) same
    ∙ sym (ap (map seen) s.whole ∙ map-append seen s.front (o ∷ s.back))

-- an edit changes the length by what stands in the object's place
pub length-edit : (xs : List Object) (n : ℕ) (o : Object) (s : Split xs n o)
    (by : Object → List Object) → length (edit n by xs) + 1 ≡ length xs + length (by o)
length-edit xs n o s by =
    let a = ap length (s.edits by) in
    let b = length-append s.front (by o ++ s.back) in
    let c = length-append (by o) s.back in
    let d = ap length s.whole in
    let e = length-append s.front (o ∷ s.back) in
    omega arith
