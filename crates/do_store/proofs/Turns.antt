-- The books after an object was added or a slot written.
use Rattle.std.proofs.Common.{◌≡◌, ◌≢◌, ◌⊎◌, ℕ, ◌+◌, ◌<◌, true, cond, eq-eqb, ne_eqb, List, [], ◌∷◌}
use Rattle.std.proofs.Common.{◌++◌, length, map, get_or, set, Option, Some, None, IsSome, Contains}
use Rattle.std.proofs.Common.{refl, sym, ap, ◌∙◌, subst, inl, inr, arith, length-append}
use Rattle.std.proofs.lemmas.{Bool.cases_eq, List.Sums.{sum_by-cons, sum_by-append, sum_by-set}}
use Rattle.do_base.specs.declared.values.value.Value.{Value}
use Rattle.do_store.specs.Objects.{stored_at, edit}
use Rattle.do_store.specs.Names.{Stored, named_in, values_name, value_names, find_stored, replaced}
use Rattle.do_store.specs.{Queue.Queue, Books.{Books, seen, waits}, Listing.{Rising, object_serial}}
use Rattle.do_store.specs.declared.object.Object.{Object}
use Rattle.do_store.proofs.Edits.{split_at, seen-edit, sum-edit, stored-edit_other}
use Rattle.do_store.proofs.Edits.{stored-edit_same, stored-serial, stored-above, length-edit}
use Rattle.do_store.proofs.Ledger.{named-edit, named-seen, contains-front, contains-last, wrote}
use Rattle.do_store.proofs.Listed.{stored-here, stored-later, stored-append}

-- what a caller finds is what is stored
pub find-seen : (xs : List Object) (n : ℕ) (x : Object) → stored_at xs n ≡ Some x
    → find_stored (map seen xs) n ≡ Some (seen x)
find-seen [] n x is = absurd (cc)
find-seen (y ∷ ys) n x is =
    elim (cases_eq y.serial n) [
      | inl same ↦ let here = stored-here y ys n same in let e : y ≡ x = cc in
          ap (λ b. cond b (Some (seen y)) (find_stored (map seen ys) n)) (eq-eqb y.serial n same)
          ∙ ap (λ (z : Object). Some (seen z)) e
      | inr other ↦ ap (λ b. cond b (Some (seen y)) (find_stored (map seen ys) n))
          (ne_eqb y.serial n other) ∙ find-seen ys n x (sym (stored-later y ys n other) ∙ is)
    ]

-- what is not stored a caller does not find
pub find-none : (xs : List Object) (n : ℕ) → stored_at xs n ≡ None
    → find_stored (map seen xs) n ≡ None
find-none [] n is = refl
find-none (y ∷ ys) n is =
    elim (cases_eq y.serial n) [
      | inl same ↦ let here = stored-here y ys n same in absurd (cc)
      | inr other ↦ ap (λ b. cond b (Some (seen y)) (find_stored (map seen ys) n))
          (ne_eqb y.serial n other) ∙ find-none ys n (sym (stored-later y ys n other) ∙ is)
    ]

-- the object behind what a caller finds
pub record Behind (xs : List Object) (n : ℕ) (s : Stored) : Type 0 where
  pub object : Object
  pub stored : stored_at xs n ≡ Some object
  pub same : seen object ≡ s

-- what a caller finds is a stored object
pub behind : (xs : List Object) (n : ℕ) (s : Stored) → find_stored (map seen xs) n ≡ Some s
    → Behind xs n s
behind xs n s is = by_option (stored_at xs n) refl
  where
    -- whether or not there is an object
    by_option : (f : Option Object) → stored_at xs n ≡ f → Behind xs n s
    by_option None none = let e = find-none xs n none in absurd (cc)
    by_option (Some x) some = let e = find-seen xs n x some in
        record { object = x; stored = some; same = cc }

-- what a caller finds is there
pub stored_some : (xs : List Object) (n : ℕ) → IsSome (find_stored (map seen xs) n)
    → IsSome (stored_at xs n)
stored_some xs n there = by_option (stored_at xs n) refl
  where
    -- whether or not there is an object
    by_option : (f : Option Object) → stored_at xs n ≡ f → IsSome (stored_at xs n)
    by_option None none = let e = find-none xs n none in absurd (cc)
    by_option (Some x) some = rw some refl

-- the look-ups after an edit
pub look : (top : ℕ) (xs : List Object) (n : ℕ) (o o' : Object) (by : Object → List Object)
    → Rising object_serial 0 xs top → stored_at xs n ≡ Some o → by o ≡ o' ∷ [] → o'.serial ≡ n
    → (k : ℕ) (x : Object) → stored_at (edit n by xs) k ≡ Some x
    → ((k ≡ n) × (x ≡ o')) ⊎ ((k ≢ n) × (stored_at xs k ≡ Some x))
look top xs n o o' by rising stored is same k x found =
    elim (cases_eq k n) [
      | inl e ↦
          let both : Some x ≡ Some o' = sym found ∙ ap (stored_at (edit n by xs)) e
          ∙ stored-edit_same xs n o o' (split_at 0 top xs n o rising stored) by is same in
          inl (e, cc)
      | inr differs ↦ inr (differs, sym (other differs) ∙ found)
    ]
  where
    -- other objects are found as before
    other : k ≢ n → stored_at (edit n by xs) k ≡ stored_at xs k
    other differs =
        stored-edit_other xs n k o (split_at 0 top xs n o rising stored) by
        (stored-serial xs n o stored) differs
        (λ zs. ap (λ l. stored_at (l ++ zs) k) is
        ∙ stored-later o' zs k (λ e. differs (sym e ∙ same)))

-- an equal option is some too
pub some_is : {X : Type 0} (f g : Option X) → f ≡ g → IsSome g → IsSome f
some_is f g e there = rw e there

-- a slot is written
pub record Slotted (port : ℕ) (xs : List Object) (p p' : ℕ → ℕ) (n at : ℕ) (value old : Value)
    (o : Object) : Type 0 where
  pub stored : stored_at xs n ≡ Some o
  pub within : at < length o.slots
  pub old_is : get_or o.slots at old ≡ old
  pub before : (k : ℕ) → p k ≡ value_names port k value
  pub after : (k : ℕ) → p' k ≡ value_names port k old
  pub known : (k : ℕ) → 0 < value_names port k value → IsSome (stored_at xs k)

-- an object with a slot written
abbrev pub slot_written : ℕ → Value → Object → List Object
slot_written at value o = record o { slots = set o.slots at value } ∷ []

-- the books hold after a slot was written, with the old value's names pending
pub books-slotted : (port top : ℕ) (xs : List Object) (spare : ℕ) (q : Queue) (p p' : ℕ → ℕ)
    (n at : ℕ) (value old : Value) (o : Object)
    → Rising object_serial 0 xs top → Slotted port xs p p' n at value old o
    → Books port xs spare q p → Books port (edit n (slot_written at value) xs) spare q p'
books-slotted port top xs spare q p p' n at value old o rising w b =
    record {
      counted = each_counted;
      closed = λ k above. still k (elim (cases_eq (value_names port k value) 0) [
        | inl none ↦ let e = names k in b.closed k (omega arith)
        | inr some ↦ w.known k (omega arith)
      ]);
      idle = λ k x is.
          elim (look top xs n o (record o { slots = set o.slots at value })
          (slot_written at value) rising w.stored refl (stored-serial xs n o w.stored) k x is) [
            | inl here ↦ λ none unnamed. ap (λ (y : Object). y.waiting) here.1
                ∙ b.idle n o w.stored (sym (ap (λ (y : Object). y.held) here.1) ∙ none)
                (sym (ap (λ (y : Object). y.named) here.1) ∙ unnamed)
            | inr there ↦ b.idle k x there.1
          ];
      queued = λ k x is waits.
          elim (look top xs n o (record o { slots = set o.slots at value })
          (slot_written at value) rising w.stored refl (stored-serial xs n o w.stored) k x is) [
            | inl here ↦ let P : ℕ → Type 0 = λ j. Contains q.serials j in
                subst P (sym here.0)
                (b.queued n o w.stored (sym (ap (λ (y : Object). y.waiting) here.1) ∙ waits))
            | inr there ↦ b.queued k x there.1 waits
          ];
      credit = let e =
          sum-edit waits xs n o (split_at 0 top xs n o rising w.stored) (slot_written at value) in
          let f = sum_by-cons waits (record o { slots = set o.slots at value }) [] in
          let h = b.credit in omega arith;
      room = let e =
          length-edit xs n o (split_at 0 top xs n o rising w.stored) (slot_written at value) in
          let f : length (slot_written at value o) ≡ 1 = refl in let h = b.room in omega arith;
    }
  where
    -- the slots name what they named
    names : (k : ℕ)
        → named_in port k (map seen (edit n (slot_written at value) xs)) + value_names port k old
        ≡ named_in port k (map seen xs) + value_names port k value
    names k =
        let e = named-edit port k xs n o (record o { slots = set o.slots at value })
        (split_at 0 top xs n o rising w.stored) (slot_written at value) refl in
        let f = sum_by-set (value_names port k) o.slots at value old w.within in
        let g = ap (value_names port k) w.old_is in
        omega arith

    -- what was stored is stored
    still : (k : ℕ) → IsSome (stored_at xs k)
        → IsSome (stored_at (edit n (slot_written at value) xs) k)
    still k some = elim (cases_eq k n) [
      | inl e ↦ some_is _ (Some (record o { slots = set o.slots at value }))
          (ap (stored_at (edit n (slot_written at value) xs)) e
          ∙ stored-edit_same xs n o (record o { slots = set o.slots at value })
          (split_at 0 top xs n o rising w.stored) (slot_written at value) refl
          (stored-serial xs n o w.stored)) refl
      | inr differs ↦
          some_is _ (stored_at xs k)
          (stored-edit_other xs n k o (split_at 0 top xs n o rising w.stored)
          (slot_written at value) (stored-serial xs n o w.stored) differs
          (λ zs. stored-later (record o { slots = set o.slots at value }) zs k
          (λ e. differs (sym e ∙ stored-serial xs n o w.stored)))) some
    ]

    -- each object's count is how often slots name it, and what is pending
    each_counted : (k : ℕ) (x : Object) → stored_at (edit n (slot_written at value) xs) k ≡ Some x
        → x.named ≡ named_in port k (map seen (edit n (slot_written at value) xs)) + p' k
    each_counted k x is =
        elim (look top xs n o (record o { slots = set o.slots at value })
        (slot_written at value) rising w.stored refl (stored-serial xs n o w.stored) k x is) [
          | inl here ↦
              let a : x.named ≡ o.named = ap (λ (y : Object). y.named) here.1 in
              let c = b.counted n o w.stored in
              let d : named_in port n (map seen xs) + p n ≡ named_in port k (map seen xs) + p k =
              ap (λ j. named_in port j (map seen xs) + p j) (sym here.0) in
              let e = names k in let f = w.before k in let g = w.after k in omega arith
          | inr there ↦ let c = b.counted k x there.1 in let e = names k in let f = w.before k in
              let g = w.after k in omega arith
        ]

-- what is None is not some
some_none : {A : Type 0} (o : Option Object) → o ≡ None → IsSome o → A
some_none None none there = absurd (cc)
some_none (Some x) none there = absurd (cc)

-- what is None is no object
pub clash : {o : Option Object} {x : Object} {A : Type 0} → o ≡ None → o ≡ Some x → A
clash {o} {x} none some = let e : None ≡ Some x = sym none ∙ some in absurd (cc)

-- the same holders, told otherwise
pub reheld : (top : ℕ) (xs : List Object) (n held : ℕ) (o : Object) (h : Stored → ℕ)
    → Rising object_serial 0 xs top → stored_at xs n ≡ Some o → held ≡ h (seen o)
    → replaced n (λ (s : Stored). record s { held = held } ∷ []) (map seen xs)
    ≡ replaced n (λ (s : Stored). record s { held = h s } ∷ []) (map seen xs)
reheld top xs n held o h rising stored same =
    sym (seen-edit xs n (wrote held 0 true) (λ (s : Stored). record s { held = held } ∷ [])
    (λ x is. refl) 0 top rising)
    ∙ seen-edit xs n (wrote held 0 true) (λ (s : Stored). record s { held = h s } ∷ []) (λ x is.
    let e : x ≡ o = one x o (sym is ∙ stored) in
    let f : held ≡ h (seen x) = same ∙ ap (λ (y : Object). h (seen y)) (sym e) in
    ap (λ m. record (seen x) { held = m } ∷ []) f) 0 top rising
  where
    -- a test counts for one at most
    one : (a c : Object) → Some a ≡ Some c → a ≡ c
    one a c e = cc

-- a new object is added, and waits
pub books-added : (port : ℕ) (xs : List Object) (spare spare' : ℕ) (q q' : Queue) (p : ℕ → ℕ)
    (n : ℕ) (o : Object)
    → Rising object_serial 0 xs n → o.serial ≡ n → o.named ≡ 0 → o.waiting ≡ true
    → ((k : ℕ) → p k ≡ values_name port k o.slots)
    → ((k : ℕ) → 0 < p k → IsSome (stored_at xs k))
    → q'.serials ≡ q.serials ++ n ∷ [] → q'.spare + 1 ≡ q.spare → spare' + 1 ≡ spare
    → Books port xs spare q p → Books port (xs ++ o ∷ []) spare' q' (λ k. 0)
books-added port xs spare spare' q q' p n o rising serial unnamed waiting names known posted room
    less b =
    record {
      counted = each_counted;
      closed = λ k above. let e = sums k in elim (cases_eq (p k) 0) [
        | inl none ↦ let f = names k in front k (b.closed k (omega arith))
        | inr some ↦ front k (known k (omega arith))
      ];
      idle = λ k x is. elim (look_added k x is) [
        | inl here ↦ λ none no. ap (λ (y : Object). y.waiting) here.1 ∙ waiting
        | inr there ↦ b.idle k x there
      ];
      queued = λ k x is waits. let P : List ℕ → Type 0 = λ l. Contains l k in
          subst P (sym posted) (elim (look_added k x is) [
            | inl here ↦ let Q : ℕ → Type 0 = λ j. Contains (q.serials ++ n ∷ []) j in
                subst Q (sym here.0) (contains-last q.serials n)
            | inr there ↦ contains-front q.serials (n ∷ []) k (b.queued k x there waits)
          ]);
      credit = let e = sum_by-append waits xs (o ∷ []) in let f = sum_by-cons waits o [] in
          let g : waits o ≡ 1 = ap (λ b. cond b 1 0) waiting in let h = ap length posted in
          let i = length-append q.serials (n ∷ []) in let j = b.credit in omega arith;
      room = let e = length-append xs (o ∷ []) in let h = ap length posted in
          let i = length-append q.serials (n ∷ []) in let j = b.room in
          let r : q'.spare + 1 ≡ q.spare = room in omega arith;
    }
  where
    -- the new serial was not stored
    fresh : stored_at xs n ≡ None
    fresh = stored-above 0 n n xs rising (omega arith)

    -- the new object's slots name besides what they name
    sums : (k : ℕ)
        → named_in port k (map seen (xs ++ o ∷ []))
        ≡ named_in port k (map seen xs) + values_name port k o.slots
    sums k =
        let f : Object → ℕ = λ (y : Object). values_name port k y.slots in
        let a = named-seen port k (xs ++ o ∷ []) in
        let c = named-seen port k xs in
        let d = sum_by-append f xs (o ∷ []) in
        let e = sum_by-cons f o [] in
        omega arith

    -- what was found is found in the longer list
    keeps : (ys : List Object) (k : ℕ) → IsSome (stored_at ys k)
        → stored_at (ys ++ o ∷ []) k ≡ stored_at ys k
    keeps [] k there = absurd (cc)
    keeps (y ∷ ys) k there = elim (cases_eq y.serial k) [
      | inl e ↦ stored-here y (ys ++ o ∷ []) k e ∙ sym (stored-here y ys k e)
      | inr e ↦ stored-later y (ys ++ o ∷ []) k e
          ∙ keeps ys k (some_is _ (stored_at (y ∷ ys) k) (sym (stored-later y ys k e)) there)
          ∙ sym (stored-later y ys k e)
    ]

    -- what was found is found with the new object behind
    front : (k : ℕ) → IsSome (stored_at xs k) → IsSome (stored_at (xs ++ o ∷ []) k)
    front k there = some_is _ (stored_at xs k) (keeps xs k there) there

    -- what is found is the new object, or another as before
    look_added : (k : ℕ) (x : Object) → stored_at (xs ++ o ∷ []) k ≡ Some x
        → ((k ≡ n) × (x ≡ o)) ⊎ (stored_at xs k ≡ Some x)
    look_added k x is = by_option (stored_at xs k) refl
      where
        -- whether or not there is an object
        by_option : (f : Option Object) → stored_at xs k ≡ f
            → ((k ≡ n) × (x ≡ o)) ⊎ (stored_at xs k ≡ Some x)
        by_option (Some y) some = inr (sym (keeps xs k (rw some refl)) ∙ is)
        by_option None none = elim (cases_eq o.serial k) [
          | inl e ↦ let f = stored-append xs (o ∷ []) k none ∙ stored-here o [] k e in
              let g : Some o ≡ Some x = sym f ∙ is in inl (sym e ∙ serial, cc)
          | inr e ↦ let f : stored_at (xs ++ o ∷ []) k ≡ None = stored-append xs (o ∷ []) k none
              ∙ stored-later o [] k e in clash f is
        ]

    -- each object's count is how often slots name it, and what is pending
    each_counted : (k : ℕ) (x : Object) → stored_at (xs ++ o ∷ []) k ≡ Some x
        → x.named ≡ named_in port k (map seen (xs ++ o ∷ [])) + 0
    each_counted k x is = let e = sums k in let f = names k in elim (look_added k x is) [
      | inl here ↦
          let a : x.named ≡ o.named = ap (λ (y : Object). y.named) here.1 in
          let c : named_in port n (map seen xs) ≡ 0 = none_named in
          let d : p n ≡ 0 = none_pending in
          let g : named_in port k (map seen xs) + p k ≡ named_in port n (map seen xs) + p n =
          ap (λ j. named_in port j (map seen xs) + p j) here.0 in
          omega arith
      | inr there ↦ let c = b.counted k x there in omega arith
    ]
      where
        -- no slot names the new serial
        none_named : named_in port n (map seen xs) ≡ 0
        none_named = elim (cases_eq (named_in port n (map seen xs)) 0) [
          | inl e ↦ e
          | inr e ↦ some_none (stored_at xs n) fresh (b.closed n (omega arith))
        ]

        -- no pending name is of the new serial
        none_pending : p n ≡ 0
        none_pending = elim (cases_eq (p n) 0) [
          | inl e ↦ e
          | inr e ↦ some_none (stored_at xs n) fresh (known n (omega arith))
        ]
