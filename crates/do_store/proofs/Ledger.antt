-- The books, after each kind of step.
use Rattle.std.proofs.Common.{◌≡◌, ◌≢◌, ◌⊎◌, ℕ, ◌+◌, ◌<◌, ◌≤◌, Bool, true, false, cond, List, []}
use Rattle.std.proofs.Common.{◌∷◌, ◌++◌, length, map, Option, Some, IsSome, Contains, refl, sym, ap}
use Rattle.std.proofs.Common.{◌∙◌, subst, inl, inr, arith, sum_by, length-append, ◌↔◌}
use Rattle.std.proofs.lemmas.{Bool.cases_eq, List.{get_or_append_left, get_or_at}}
use Rattle.std.proofs.lemmas.List.Sums.{sum_by-cons, sum_by-append}
use Rattle.do_store.specs.{Objects.{stored_at, edit}, Names.{Stored, named_in}, Queue.Queue}
use Rattle.do_store.specs.{Books.{Books, seen, waits}, Listing.{Rising, object_serial}}
use Rattle.do_store.specs.declared.object.Object.{Object}
use Rattle.do_store.proofs.Edits.{Split, split_at, sum-edit, stored-edit_other, stored-edit_same}
use Rattle.do_store.proofs.{Edits.{stored-serial, length-edit}, Listed.stored-later}

-- the counts of one object are written
pub record Written (port : ℕ) (xs : List Object) (q q' : Queue) (p p' : ℕ → ℕ) (n held named : ℕ)
    (waiting : Bool) (o : Object) : Type 0 where
  pub stored : stored_at xs n ≡ Some o
  pub count : named ≡ named_in port n (map seen xs) + p' n
  -- any other object is found as before
  pub others : (k : ℕ) → k ≢ n → p' k ≡ p k
  pub rests : held ≡ 0 → named ≡ 0 → waiting ≡ true
  pub queued : waiting ≡ true → Contains q'.serials n
  pub queue : (k : ℕ) → k ≢ n → Contains q.serials k → Contains q'.serials k
  pub credit : length q'.serials + waits o ≤ length q.serials + cond waiting 1 0
  pub room : q.spare + length q.serials ≡ q'.spare + length q'.serials

-- the counts of an object, written
abbrev pub wrote : ℕ → ℕ → Bool → Object → List Object
wrote held named waiting o = record o { held = held; named = named; waiting = waiting } ∷ []

-- what is some object is there
some_of : {X : Type 0} (o : Option X) (x : X) → o ≡ Some x → IsSome o
some_of o x is = rw is refl

-- the names do not change with the counts
pub named-seen : (port k : ℕ) (xs : List Object)
    → named_in port k (map seen xs)
    ≡ sum_by (λ (o : Object). Rattle.do_store.specs.Names.values_name port k o.slots) xs
named-seen port k [] = refl
named-seen port k (x ∷ xs) =
    sum_by-cons (λ (o : Stored). Rattle.do_store.specs.Names.values_name port k o.slots) (seen x)
    (map seen xs)
    ∙ ap (λ m. Rattle.do_store.specs.Names.values_name port k x.slots + m) (named-seen port k xs)
    ∙ sym (sum_by-cons (λ (o : Object). Rattle.do_store.specs.Names.values_name port k o.slots) x
    xs)

-- an edit that keeps an object's slots keeps what the slots name
pub named-edit : (port k : ℕ) (xs : List Object) (n : ℕ) (o o' : Object) (s : Split xs n o)
    (by : Object → List Object) → by o ≡ o' ∷ []
    → named_in port k (map seen (edit n by xs)) + Rattle.do_store.specs.Names.values_name port k
    o.slots ≡ named_in port k (map seen xs) + Rattle.do_store.specs.Names.values_name port k
    o'.slots
named-edit port k xs n o o' s by is =
    let f : Object → ℕ = λ (o : Object). Rattle.do_store.specs.Names.values_name port k o.slots in
    let a = sum-edit f xs n o s by in
    let b = named-seen port k xs in
    let c = named-seen port k (edit n by xs) in
    let d = ap (sum_by f) is in
    let e = sum_by-cons f o' [] in
    omega arith

-- the books hold after an object's counts were written
pub books-written : (port top : ℕ) (xs : List Object) (spare : ℕ) (q q' : Queue) (p p' : ℕ → ℕ)
    (n held named : ℕ) (waiting : Bool) (o : Object)
    → Rising object_serial 0 xs top → Written port xs q q' p p' n held named waiting o
    → Books port xs spare q p → Books port (edit n (wrote held named waiting) xs) spare q' p'
books-written port top xs spare q q' p p' n held named waiting o rising w b =
    record {
      counted = each_counted;
      closed = λ k above. found_still k (b.closed k (subst (λ (m : ℕ). 0 < m) (names k) above));
      idle = each_idle;
      queued = each_queued;
      credit = let e = sum-edit waits xs n o s by in let f = sum_by-cons waits o' [] in
          let g : length q'.serials + waits o ≤ length q.serials + cond waiting 1 0 = w.credit in
          let h = b.credit in omega arith;
      room = let e = length-edit xs n o s by in let f : length (by o) ≡ 1 = refl in
          let h = b.room in let i = w.room in omega arith;
    }
  where
    -- the list splits at the object
    s : Split xs n o
    s = split_at 0 top xs n o rising w.stored

    -- what is written
    by : Object → List Object
    by = wrote held named waiting

    -- the object as written
    o' : Object
    o' = record o { held = held; named = named; waiting = waiting }

    -- the object has the serial
    same : o.serial ≡ n
    same = stored-serial xs n o w.stored

    -- the slots name what they named
    names : (k : ℕ) → named_in port k (map seen (edit n (wrote held named waiting) xs))
        ≡ named_in port k (map seen xs)
    names k =
        let e = named-edit port k xs n o
        (record o { held = held; named = named; waiting = waiting })
        (split_at 0 top xs n o rising w.stored) (wrote held named waiting) refl in
        omega arith

    -- other objects are found as before
    other : (k : ℕ) → k ≢ n → stored_at (edit n (wrote held named waiting) xs) k ≡ stored_at xs k
    other k differs =
        stored-edit_other xs n k o (split_at 0 top xs n o rising w.stored)
        (wrote held named waiting) same differs
        (λ zs. stored-later (record o { held = held; named = named; waiting = waiting }) zs k
        (λ e. differs (sym e ∙ same)))

    -- the object is found as written
    itself : stored_at (edit n (wrote held named waiting) xs) n
        ≡ Some (record o { held = held; named = named; waiting = waiting })
    itself = stored-edit_same xs n o (record o { held = held; named = named; waiting = waiting })
        (split_at 0 top xs n o rising w.stored) (wrote held named waiting) refl same

    -- what was stored is stored
    found_still : (k : ℕ) → IsSome (stored_at xs k)
        → IsSome (stored_at (edit n (wrote held named waiting) xs) k)
    found_still k some = elim (cases_eq k n) [
      | inl e ↦ some_of (stored_at (edit n (wrote held named waiting) xs) k) _
          (ap (stored_at (edit n (wrote held named waiting) xs)) e ∙ itself)
      | inr differs ↦ let P : Option Object → Type 0 = λ f. IsSome f in
          subst P (sym (other k differs)) some
    ]

    -- what is found after an edit is the edited object, or another as before
    look : (k : ℕ) (x : Object) → stored_at (edit n (wrote held named waiting) xs) k ≡ Some x
        → ((k ≡ n) × (x ≡ record o { held = held; named = named; waiting = waiting }))
        ⊎ ((k ≢ n) × (stored_at xs k ≡ Some x))
    look k x is = elim (cases_eq k n) [
      | inl e ↦
          let both : Some x ≡ Some (record o { held = held; named = named; waiting = waiting }) =
          sym is ∙ ap (stored_at (edit n (wrote held named waiting) xs)) e ∙ itself in
          inl (e, cc)
      | inr differs ↦ inr (differs, sym (other k differs) ∙ is)
    ]

    -- each object's count is how often slots name it, and what is pending
    each_counted : (k : ℕ) (x : Object)
        → stored_at (edit n (wrote held named waiting) xs) k ≡ Some x
        → x.named ≡ named_in port k (map seen (edit n (wrote held named waiting) xs)) + p' k
    each_counted k x is = elim (look k x is) [
      | inl here ↦
          let a : x.named ≡ named = ap (λ (y : Object). y.named) here.1 in
          let b : named_in port n (map seen xs) + p' n ≡ named_in port k (map seen xs) + p' k =
          ap (λ j. named_in port j (map seen xs) + p' j) (sym here.0) in
          a ∙ w.count ∙ b ∙ ap (λ m. m + p' k) (sym (names k))
      | inr there ↦
          b.counted k x there.1
          ∙ ap (λ m. named_in port k (map seen xs) + m) (sym (w.others k there.0))
          ∙ ap (λ m. m + p' k) (sym (names k))
    ]

    -- each idle object waits
    each_idle : (k : ℕ) (x : Object) → stored_at (edit n (wrote held named waiting) xs) k ≡ Some x
        → x.held ≡ 0 → x.named ≡ 0 → x.waiting ≡ true
    each_idle k x is none unnamed = elim (look k x is) [
      | inl here ↦
          let a : x.named ≡ named = ap (λ (y : Object). y.named) here.1 in
          let b : x.held ≡ held = ap (λ (y : Object). y.held) here.1 in
          ap (λ (y : Object). y.waiting) here.1 ∙ w.rests (sym b ∙ none) (sym a ∙ unnamed)
      | inr there ↦ b.idle k x there.1 none unnamed
    ]

    -- each waiting object's serial is in the queue
    each_queued : (k : ℕ) (x : Object) → stored_at (edit n (wrote held named waiting) xs) k ≡ Some x
        → x.waiting ≡ true → Contains q'.serials k
    each_queued k x is waits = elim (look k x is) [
      | inl here ↦
          let a : x.waiting ≡ waiting = ap (λ (y : Object). y.waiting) here.1 in
          let P : ℕ → Type 0 = λ j. Contains q'.serials j in
          subst P (sym here.0) (w.queued (sym a ∙ waits))
      | inr there ↦ w.queue k there.0 (b.queued k x there.1 waits)
    ]

-- no more objects wait than there are
pub waits-below : (xs : List Object) → sum_by waits xs ≤ length xs
waits-below [] = omega arith
waits-below (x ∷ xs) = let e = sum_by-cons waits x xs in let f = waits-below xs in
    let g = one x.waiting in omega arith
  where
    -- a test counts for one at most
    one : (b : Bool) → cond b 1 0 ≤ 1
    one true = omega arith
    one false = omega arith

-- where an object does not wait, one more fits into the queue
pub room_to_wait : (port top : ℕ) (xs : List Object) (spare : ℕ) (q : Queue) (p : ℕ → ℕ) (n : ℕ)
    (o : Object) → Rising object_serial 0 xs top → Books port xs spare q p → stored_at xs n ≡ Some o
    → o.waiting ≡ false → 0 < q.spare
room_to_wait port top xs spare q p n o rising b stored rests =
    let s = split_at 0 top xs n o rising stored in
    let a = waits-below s.front in
    let c = waits-below s.back in
    let d = sum_by-append waits s.front (o ∷ s.back) in
    let e = sum_by-cons waits o s.back in
    let f : waits o ≡ 0 = ap (λ b. cond b 1 0) rests in
    let g = ap (sum_by waits) s.whole in
    let h = ap length s.whole in
    let i = length-append s.front (o ∷ s.back) in
    let j = b.credit in
    let k = b.room in
    omega arith

-- a member of the front is a member of the whole
pub contains-front : {X : Type 0} (xs ys : List X) (x : X) → Contains xs x → Contains (xs ++ ys) x
contains-front xs ys x p = let e = length-append xs ys in
    (p.0, omega (arith, p.1), get_or_append_left xs ys x p.0 p.1 ∙ p.2)

-- the last item is a member
pub contains-last : {X : Type 0} (xs : List X) (x : X) → Contains (xs ++ x ∷ []) x
contains-last xs x = let e = length-append xs (x ∷ []) in
    (length xs, omega arith, get_or_at xs x [] x (length xs) refl)

-- where the test of idleness fails, an object with no holder and no name waits already
pub rests_when : (idle : Bool) (held named : ℕ) (waits : Bool)
    → ((idle ≡ true) ↔ ((held ≡ 0) × (named ≡ 0) × (waits ≡ false))) → idle ≡ false → held ≡ 0
    → named ≡ 0 → waits ≡ true
rests_when idle held named true iff busy a b = refl
rests_when idle held named false iff busy a b = let yes : idle ≡ true = iff.1 (a, b, refl) in
    absurd (cc)

-- counts are written, and the queue stays
pub books-kept : (port top : ℕ) (xs : List Object) (spare : ℕ) (q : Queue) (p p' : ℕ → ℕ)
    (n held named : ℕ) (waiting : Bool) (o : Object)
    → Books port xs spare q p → Rising object_serial 0 xs top → stored_at xs n ≡ Some o
    → o.waiting ≡ waiting
    → named ≡ named_in port n (map seen xs) + p' n → ((k : ℕ) → k ≢ n → p' k ≡ p k)
    → (held ≡ 0 → named ≡ 0 → waiting ≡ true)
    → Books port (edit n (wrote held named waiting) xs) spare q p'
books-kept port top xs spare q p p' n held named waiting o b rising stored same count others rests =
    books-written port top xs spare q q p p' n held named waiting o rising (record {
      stored = stored;
      count = count;
      others = others;
      rests = rests;
      queued = λ yes. b.queued n o stored (same ∙ yes);
      queue = λ k differs there. there;
      credit = let e : waits o ≡ cond waiting 1 0 = ap (λ b. cond b 1 0) same in omega arith;
      room = refl;
    }) b

-- counts are written, and the object begins to wait
pub books-posted : (port top : ℕ) (xs : List Object) (spare : ℕ) (q q' : Queue) (p p' : ℕ → ℕ)
    (n held named : ℕ) (o : Object)
    → Books port xs spare q p → Rising object_serial 0 xs top → stored_at xs n ≡ Some o
    → o.waiting ≡ false
    → named ≡ named_in port n (map seen xs) + p' n → ((k : ℕ) → k ≢ n → p' k ≡ p k)
    → q'.serials ≡ q.serials ++ n ∷ [] → q'.spare + 1 ≡ q.spare
    → Books port (edit n (wrote held named true) xs) spare q' p'
books-posted port top xs spare q q' p p' n held named o b rising stored rests count others posted
    room =
    let e : length q'.serials ≡ length (q.serials ++ n ∷ []) = ap length posted in
    let f = length-append q.serials (n ∷ []) in
    let r : q'.spare + 1 ≡ q.spare = room in
    let P : List ℕ → Type 0 = λ l. Contains l n in
    books-written port top xs spare q q' p p' n held named true o rising (record {
      stored = stored;
      count = count;
      others = others;
      rests = λ a b. refl;
      queued = λ yes. subst P (sym posted) (contains-last q.serials n);
      queue = λ k differs there. let Q : List ℕ → Type 0 = λ l. Contains l k in
          subst Q (sym posted) (contains-front q.serials (n ∷ []) k there);
      credit = let g : waits o ≡ 0 = ap (λ b. cond b 1 0) rests in omega arith;
      room = omega arith;
    }) b
