-- The books once the first of the queue was passed over, found busy or taken out.
use Rattle.std.proofs.Common.{◌≡◌, ◌≢◌, ℕ, ◌+◌, ◌<◌, ◌≤◌, Bool, true, false, cond, List, [], ◌∷◌}
use Rattle.std.proofs.Common.{length, map, Some, None, Contains, refl, sym, ap, ◌∙◌, subst, inl}
use Rattle.std.proofs.{Common.{inr, arith, sum_by}, lemmas.Bool.cases_eq}
use Rattle.slab.proofs.SlabLemmas.{Contains-cons_cases}
use Rattle.do_store.specs.Objects.{stored_at, edit}
use Rattle.do_store.specs.{Names.{Stored, named_in, values_name, find_stored}, Queue.Queue}
use Rattle.do_store.specs.{Books.{Books, seen, waits}, Listing.{Rising, object_serial}}
use Rattle.do_store.{specs.declared.object.Object.Object, proofs.Edits.{split_at, sum-edit}}
use Rattle.do_store.proofs.Edits.{stored-edit_other, stored-edit_gone, stored-serial, length-edit}
use Rattle.do_store.proofs.{Ledger.{named-seen, books-written, wrote}, Turns.{behind, some_is}}

-- the first of the queue is taken
pub record Taken (q q' : Queue) (n : ℕ) : Type 0 where
  pub serials : q.serials ≡ n ∷ q'.serials
  pub spare : q'.spare ≡ q.spare + 1

-- any other serial stays in the queue
taken-other : (q q' : Queue) (n k : ℕ) → Taken q q' n → k ≢ n → Contains q.serials k
    → Contains q'.serials k
taken-other q q' n k t differs there =
    let P : List ℕ → Type 0 = λ l. Contains l k in
    elim (Contains-cons_cases n k q'.serials (subst P t.serials there)) [
      | inl here ↦ absurd (differs (sym here))
      | inr later ↦ later
    ]

-- the queue is shorter by one
taken-length : (q q' : Queue) (n : ℕ) → Taken q q' n → length q.serials ≡ length q'.serials + 1
taken-length q q' n t = let e = ap length t.serials in omega arith

-- where it is not stored
pub books-passed : (port : ℕ) (xs : List Object) (spare : ℕ) (q q' : Queue) (p : ℕ → ℕ) (n : ℕ)
    → Taken q q' n → stored_at xs n ≡ None → Books port xs spare q p → Books port xs spare q' p
books-passed port xs spare q q' p n t none b = record {
  counted = b.counted;
  closed = b.closed;
  idle = b.idle;
  queued = λ k x is waits.
      taken-other q q' n k t (λ e. let f = sym is ∙ ap (stored_at xs) e ∙ none in absurd (cc))
      (b.queued k x is waits);
  credit = let e = taken-length q q' n t in let f = b.credit in omega arith;
  room = let e = taken-length q q' n t in let f = b.room in let g = t.spare in omega arith;
}

-- a test counts for one at most
waits_one : (b : Bool) → cond b 1 0 ≤ 1
waits_one true = omega arith
waits_one false = omega arith

-- where it is held or named
pub books-busy : (port top : ℕ) (xs : List Object) (spare : ℕ) (q q' : Queue) (p : ℕ → ℕ) (n : ℕ)
    (o : Object) → Taken q q' n → Rising object_serial 0 xs top → stored_at xs n ≡ Some o
    → ((o.held ≡ 0) × (o.named ≡ 0) → ⊥) → Books port xs spare q p
    → Books port (edit n (wrote o.held o.named false) xs) spare q' p
books-busy port top xs spare q q' p n o t rising stored busy b =
    books-written port top xs spare q q' p p n o.held o.named false o rising (record {
      stored = stored;
      count = b.counted n o stored;
      others = λ k differs. refl;
      rests = λ none unnamed. absurd (busy (none, unnamed));
      queued = λ yes. absurd (cc);
      queue = λ k differs. taken-other q q' n k t differs;
      credit = let e = taken-length q q' n t in let f = waits_one o.waiting in omega arith;
      room = let e = taken-length q q' n t in let f = t.spare in omega arith;
    }) b

-- where it is taken out
pub books-removed : (port top : ℕ) (xs : List Object) (spare : ℕ) (q q' : Queue) (n : ℕ)
    (o : Object) → Taken q q' n → Rising object_serial 0 xs top → stored_at xs n ≡ Some o
    → o.held ≡ 0 → o.named ≡ 0 → Books port xs spare q (λ k. 0)
    → Books port (edit n (λ x. []) xs) spare q' (λ k. values_name port k o.slots)
books-removed port top xs spare q q' n o t rising stored held named b =
    record {
      counted = λ k x is. let there = others k x is in let c = b.counted k x there.1 in
          let e = names k in omega arith;
      closed = λ k above. let e = names k in let f : k ≢ n = (λ g. unnamed k g above) in
          some_is _ (stored_at xs k) (other k f) (b.closed k (omega arith));
      idle = λ k x is. let there = others k x is in b.idle k x there.1;
      queued = λ k x is waits. let there = others k x is in
          taken-other q q' n k t there.0 (b.queued k x there.1 waits);
      credit = let e = sum-edit waits xs n o (split_at 0 top xs n o rising stored) (λ x. []) in
          let f = taken-length q q' n t in let g = waits_one o.waiting in let h = b.credit in
          let i : sum_by waits [] ≡ 0 = refl in omega arith;
      room = let e = length-edit xs n o (split_at 0 top xs n o rising stored) (λ x. []) in
          let f = taken-length q q' n t in let g = t.spare in let h = b.room in omega arith;
    }
  where
    -- the slots name what they named
    names : (k : ℕ) → named_in port k (map seen (edit n (λ x. []) xs)) + values_name port k o.slots
        ≡ named_in port k (map seen xs)
    names k =
        let e = sum-edit (λ (y : Object). values_name port k y.slots) xs n o
        (split_at 0 top xs n o rising stored) (λ x. []) in
        let f = named-seen port k xs in
        let g = named-seen port k (edit n (λ x. []) xs) in
        let i : sum_by (λ (y : Object). values_name port k y.slots) [] ≡ 0 = refl in
        omega arith

    -- other objects are found as before
    other : (k : ℕ) → k ≢ n → stored_at (edit n (λ x. []) xs) k ≡ stored_at xs k
    other k differs = stored-edit_other xs n k o (split_at 0 top xs n o rising stored) (λ x. [])
        (stored-serial xs n o stored) differs (λ zs. refl)

    -- any other object is found as before
    others : (k : ℕ) (x : Object) → stored_at (edit n (λ x. []) xs) k ≡ Some x
        → (k ≢ n) × (stored_at xs k ≡ Some x)
    others k x is = elim (cases_eq k n) [
      | inl e ↦ let f = sym is ∙ ap (stored_at (edit n (λ x. []) xs)) e
          ∙ stored-edit_gone xs n o (split_at 0 top xs n o rising stored) in absurd (cc)
      | inr differs ↦ (differs, sym (other k differs) ∙ is)
    ]

    -- no slot names the object that was taken out
    unnamed : (k : ℕ) → k ≡ n → 0 < named_in port k (map seen (edit n (λ x. []) xs)) → ⊥
    unnamed k e above =
        let c = b.counted n o stored in
        let f = names k in
        let g : named_in port k (map seen xs) ≡ named_in port n (map seen xs) =
        ap (λ j. named_in port j (map seen xs)) e in
        omega arith

-- where the queue is empty, nothing is idle
pub none_idle : (port : ℕ) (xs : List Object) (spare : ℕ) (q : Queue)
    → Books port xs spare q (λ k. 0) → q.serials ≡ [] → (n : ℕ) (s : Stored)
    → find_stored (map seen xs) n ≡ Some s → s.held ≡ 0 → named_in port n (map seen xs) ≢ 0
none_idle port xs spare q b empty n s found held unnamed =
    let f = behind xs n s found in
    let c = b.counted n f.object f.stored in
    let h : f.object.held ≡ 0 = ap (λ (t : Stored). t.held) f.same ∙ held in
    let waiting = b.idle n f.object f.stored h (omega arith) in
    let P : List ℕ → Type 0 = λ l. Contains l n in
    let there = subst P empty (b.queued n f.object f.stored waiting) in
    absurd (omega (arith, there.1))
