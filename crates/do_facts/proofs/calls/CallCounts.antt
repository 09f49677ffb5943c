-- How often calls are waited for and served, once frames change.
use Rattle.do_behave.specs.declared.invocation.Reason.TheVariants as reasons
use Rattle.std.proofs.Common.{◌≡◌, ◌==◌, ◌&&◌, ◌+◌, ◌≤◌, ℕ, Bool, true, false, not, List, [], ◌∷◌}
use Rattle.std.proofs.Common.{filter, map, refl, sym, arith}
use Rattle.std.{specs.{Prelude.if◌then◌else◌, Bool.beq}, proofs.lemmas.Bool.Decides.nat_tests}
use Rattle.do_behave.specs.declared.invocation.Reason.{Reason}
use Rattle.do_machine.specs.{declared.node.LateCall.LateCall, Lists.change_first}
use Rattle.do_machine.specs.take.Awaiting.{AnsweredCall, is_answered, is_for_root}
use Rattle.do_facts.specs.{Net.total, calls.Calls.{Calls, Frame, Idle, Lower, On, Wait}}
use Rattle.do_facts.specs.calls.Facts.{late_of, number_late, number_on, numbers, on_of, serves_of}
use Rattle.do_facts.specs.calls.{Facts.waits, Moves.{idle, is_call, is_first_lower, is_on}}
use Rattle.do_facts.specs.calls.Moves.{first_rested, rested, without_peer}
use Rattle.do_facts.proofs.SumsOfLists.{changed_le, changed_same, filtered_le, filtered_same}
use Rattle.do_facts.proofs.SumsOfLists.{mapped_le, mapped_same, number_if, total_le}

-- an invocation that no peer waits for serves no call
pub serves_none : (n k : ℕ) (reason : Reason) → is_call reason ≡ false →
    serves_of n k (idle reason) ≡ 0
serves_none n k (reasons.Call peer number) h = absurd (cc)
serves_none n k _ h = refl

-- what waits for a call waits for one of its number
on_number : (j : AnsweredCall) (w : Wait) (reason : Reason) →
    on_of j (record { reason = reason; wait = w })
    ≤ number_on j.number (record { reason = reason; wait = w })
on_number j (On peer number root) reason = grind (arith, nat_tests)
on_number j _ reason = omega arith

-- and so does a late call
late_number : (j : AnsweredCall) (c : LateCall) → late_of j c ≤ number_late j.number c
late_number j c = grind (arith, nat_tests)

-- a call is waited for at most as often as one of its number
pub waits_at_most : (p : Calls) (j : AnsweredCall) → waits p j ≤ numbers p j.number
waits_at_most p j =
    omega (
      arith,
      total_le (on_of j) (number_on j.number) (λ f. on_number j f.wait f.reason) p.stack,
      total_le (late_of j) (number_late j.number) (late_number j) p.late,
    )

-- frames of which the first waited for the one above it, and waits no longer
module _ (fs : List Frame) (h : is_first_lower fs ≡ true) where
  -- are on as many calls
  pub rested_on : (j : AnsweredCall) → total (on_of j) (first_rested fs) ≡ total (on_of j) fs
  rested_on j = go fs h
    where
      at : (reason : Reason) (w : Wait) (rest : List Frame) → is_first_lower (record {
        reason = reason;
        wait = w;
      } ∷ rest) ≡ true → total (on_of j) (idle reason ∷ rest)
          ≡ total (on_of j) (record { reason = reason; wait = w } ∷ rest)
      at reason Idle rest e = refl
      at reason Lower rest e = refl
      at reason (On peer number root) rest e = absurd (cc)

      go : (gs : List Frame) → is_first_lower gs ≡ true →
          total (on_of j) (first_rested gs) ≡ total (on_of j) gs
      go [] e = refl
      go (g ∷ gs) e = at g.reason g.wait gs e

-- frames of which the first waits no longer serve as many calls
pub rested_serves : (n k : ℕ) (fs : List Frame) →
    total (serves_of n k) (first_rested fs) ≡ total (serves_of n k) fs
rested_serves n k [] = refl
rested_serves n k (f ∷ fs) = refl

-- and wait for no more numbers
pub rested_numbers : (k : ℕ) (fs : List Frame) →
    total (number_on k) (first_rested fs) ≤ total (number_on k) fs
rested_numbers k [] = omega arith
rested_numbers k (f ∷ fs) = omega arith

-- ---- a call is answered

-- what waits for one call waits for no other
on_one : (k j : AnsweredCall) (reason : Reason) (w : Wait) →
    (if j.peer == k.peer then (if j.number == k.number then beq j.root k.root else false)
    else false) ≡ false → is_on k w ≡ true →
    on_of j (record { reason = reason; wait = w }) ≡ 0
on_one k j reason (On peer number root) h e = go root j.root k.root h e
  where
    go : (r s t : Bool) →
        (if j.peer == k.peer then (if j.number == k.number then beq s t else false) else false)
        ≡ false → ((number == k.number) && (peer == k.peer) && beq r t) ≡ true →
        number_if ((number == j.number) && (peer == j.peer) && beq r s) ≡ 0
    go true true true h e = grind (arith, nat_tests, h, e)
    go true true false h e = grind (arith, nat_tests, h, e)
    go true false true h e = grind (arith, nat_tests, h, e)
    go true false false h e = grind (arith, nat_tests, h, e)
    go false true true h e = grind (arith, nat_tests, h, e)
    go false true false h e = grind (arith, nat_tests, h, e)
    go false false true h e = grind (arith, nat_tests, h, e)
    go false false false h e = grind (arith, nat_tests, h, e)
on_one k j reason _ h e = refl

module _ (k j : AnsweredCall)
    (apart : (if j.peer == k.peer then (if j.number == k.number then beq j.root k.root else false)
    else false) ≡ false) where
  -- a late call is one call alone
  late_one : (c : LateCall) → not (is_answered k c.peer c.number c.what) ≡ false →
      late_of j c ≡ 0
  late_one c h = on_one k j reasons.Start (On c.peer c.number (is_for_root c.what)) apart (is h)
    where
      is : not (is_answered k c.peer c.number c.what) ≡ false →
          is_answered k c.peer c.number c.what ≡ true
      is e = grind (arith, e)

  -- another call is waited for as often
  pub others_wait : (p : Calls) →
      total (on_of j) (change_first (λ f. is_on k f.wait) rested p.stack)
      + total (late_of j) (filter (λ c. not (is_answered k c.peer c.number c.what)) p.late)
      ≡ waits p j
  others_wait p =
      omega (
        arith,
        changed_same (on_of j) (λ f. is_on k f.wait) rested
            (λ f e. sym (on_one k j f.reason f.wait apart e)) p.stack,
        filtered_same (late_of j) (λ c. not (is_answered k c.peer c.number c.what)) late_one p.late,
      )

-- frames that wait no longer serve as many calls
pub changed_serves : (k : AnsweredCall) (n j : ℕ) (fs : List Frame) →
    total (serves_of n j) (change_first (λ f. is_on k f.wait) rested fs)
    ≡ total (serves_of n j) fs
changed_serves k n j fs =
    changed_same (serves_of n j) (λ f. is_on k f.wait) rested (λ f e. refl) fs

-- and wait for no more numbers
pub changed_numbers : (k : AnsweredCall) (p : Calls) (j : ℕ) →
    total (number_on j) (change_first (λ f. is_on k f.wait) rested p.stack)
    + total (number_late j) (filter (λ c. not (is_answered k c.peer c.number c.what)) p.late)
    ≤ numbers p j
changed_numbers k p j =
    omega (
      arith,
      changed_le (number_on j) (λ f. is_on k f.wait) rested (λ f. omega arith) p.stack,
      filtered_le (number_late j) (λ c. not (is_answered k c.peer c.number c.what)) p.late,
    )

-- ---- an end is closed

module _ (peer : ℕ) where
  -- a frame that waits for another peer waits still
  parted_on : (j : AnsweredCall) → (j.peer == peer) ≡ false → (f : Frame) →
      on_of j (without_peer peer f) ≡ on_of j f
  parted_on j h f = grind (arith, nat_tests, h)

  -- a late call to another peer is late still
  late_apart : (j : AnsweredCall) → (j.peer == peer) ≡ false → (c : LateCall) →
      not (c.peer == peer) ≡ false → late_of j c ≡ 0
  late_apart j h c e = grind (arith, nat_tests, h, e)

  -- calls of other peers are waited for as often
  pub parted_waits : (p : Calls) (j : AnsweredCall) → (j.peer == peer) ≡ false →
      total (on_of j) (map (without_peer peer) p.stack)
      + total (late_of j) (filter (λ c. not (c.peer == peer)) p.late) ≡ waits p j
  parted_waits p j h =
      omega (
        arith,
        mapped_same (on_of j) (without_peer peer) (parted_on j h) p.stack,
        filtered_same (late_of j) (λ c. not (c.peer == peer)) (late_apart j h) p.late,
      )

  -- a frame serves the same call
  parted_serves_one : (n j : ℕ) (f : Frame) →
      serves_of n j (without_peer peer f) ≡ serves_of n j f
  parted_serves_one n j f = grind arith

  -- as many calls are served
  pub parted_serves : (n j : ℕ) (fs : List Frame) →
      total (serves_of n j) (map (without_peer peer) fs) ≡ total (serves_of n j) fs
  parted_serves n j fs =
      mapped_same (serves_of n j) (without_peer peer) (parted_serves_one n j) fs

  -- a frame waits for no more numbers
  parted_number : (j : ℕ) (f : Frame) → number_on j (without_peer peer f) ≤ number_on j f
  parted_number j f = grind arith

  -- no more numbers are waited for
  pub parted_numbers : (p : Calls) (j : ℕ) →
      total (number_on j) (map (without_peer peer) p.stack)
      + total (number_late j) (filter (λ c. not (c.peer == peer)) p.late) ≤ numbers p j
  parted_numbers p j =
      omega (
        arith,
        mapped_le (number_on j) (without_peer peer) (parted_number j) p.stack,
        filtered_le (number_late j) (λ c. not (c.peer == peer)) p.late,
      )
