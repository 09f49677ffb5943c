-- Moves of the top invocation keep each call in one place.
use Rattle.do_behave.specs.declared.invocation.Reason.TheVariants as reasons
use Rattle.do_facts.proofs.calls.CallMoves as Call
use Rattle.std.proofs.Common.{◌≡◌, ◌≢◌, ◌==◌, ◌+◌, ℕ, Bool, true, false, cond, List, [], ◌∷◌, refl}
use Rattle.std.{proofs.Common.{sym, ap, ◌∙◌, subst, arith}, specs.{Prelude.if◌then◌else◌, Bool.beq}}
use Rattle.std.proofs.lemmas.Bool.Decides.{nat_tests}
use Rattle.do_behave.specs.declared.invocation.Reason.{Reason}
use Rattle.do_machine.specs.{declared.node.LateCall.LateCall, ends.TimeOut.late_lt}
use Rattle.do_machine.specs.take.Awaiting.{AnsweredCall}
use Rattle.do_facts.specs.Net.{Net, Note, net_after, total, with_part}
use Rattle.do_facts.specs.calls.Calls.{Answer, Atom, Called, Calls, Frame, On, RootAsk, Lower}
use Rattle.do_facts.specs.calls.Facts.{CallsHold, OneCall, OneNumber, late_of, number_late}
use Rattle.do_facts.specs.calls.Facts.{number_on, on_of, serves_of, waits}
use Rattle.do_facts.specs.calls.Moves.{AreShaped, Asks, Begins, Drops, Finishes, GivesUp, Move}
use Rattle.do_facts.specs.calls.Moves.{Replies, Returns, Starts, behind, first_rested, first_waits}
use Rattle.do_facts.specs.calls.Moves.{idle, lower, may, moved, note, opens, posts, takes}
use Rattle.do_facts.proofs.SumsOfLists.{number_if, total_inserted}
use Rattle.do_facts.proofs.calls.{CallsEnd.{number_given, numbers_stay}, StacksShaped.shaped_moved}
use Rattle.do_facts.proofs.calls.CallCounts.{rested_numbers, rested_on, rested_serves, serves_none}

-- which calls an invocation waits for that asked a peer
on_asked : (j : AnsweredCall) (to k : ℕ) (reason : Reason) (root : Bool) →
    on_of j (record { reason = reason; wait = On to k root })
    ≡ (if j.peer == to then (if j.number == k then (if beq root j.root then 1 else 0) else 0)
    else 0)
on_asked j to k reason root = grind (arith, nat_tests)

module _ (net : Net Calls Atom) (a : ℕ) (hold : CallsHold net) where
  -- the part of the node
  abbrev pub p : Calls
  p = net.part a

  -- the net once the node moved
  abbrev pub After : Move → Net Calls Atom
  After v = net_after a (moved p v) (takes v) (posts p v) net

  -- a peer over an open end is another node
  pub other : (peer : ℕ) → opens p peer ≡ true → peer ≢ a
  other peer o e = no (ap (opens p) (sym e) ∙ o) (hold.apart a)
    where
      no : opens p a ≡ true → opens p a ≡ false → ⊥
      no x y = cc

  -- stacks stay shaped
  pub shaped_now : (v : Move) → may p v → (n : ℕ) →
      AreShaped (with_part a (moved p v) net.part n).stack
  shaped_now v m n = go (n == a)
    where
      go : (b : Bool) → AreShaped (cond b (moved p v) (net.part n)).stack
      go true = shaped_moved p v (hold.shaped a) m
      go false = hold.shaped n

  -- nodes stay apart from themselves, where no end changes
  pub apart_now : (q : Calls) → q.open_to ≡ p.open_to → (n : ℕ) →
      opens (with_part a q net.part n) n ≡ false
  apart_now q same n = grind (arith, nat_tests, same, hold.apart n)

  -- a move that leaves the ends keeps what holds, where it keeps each call and each number
  pub now : (v : Move) → may p v → (moved p v).open_to ≡ p.open_to →
      ((x y z : ℕ) → OneCall (After v) x y z) → ((x z : ℕ) → OneNumber (After v) x z) →
      CallsHold (After v)
  now v m same one once = record {
    apart = apart_now (moved p v) same;
    shaped = shaped_now v m;
    calls = one;
    numbers = once;
  }

  -- ---- moves of the top invocation

  -- it begins another
  pub begins : (m : may p Begins) → CallsHold (After Begins)
  begins m =
      let q = moved p Begins in
      let e = m.1.1 in
      let s : q.stack ≡ idle reasons.Local ∷ lower m.0 ∷ m.1.0 =
      ap (λ fs. idle reasons.Local ∷ first_waits Lower fs) e in
      now Begins m refl
      (Call.still net a hold.calls q refl
      (λ j. omega (arith, ap (total (on_of j)) s, ap (total (on_of j)) e))
      (λ n k. omega (arith, ap (total (serves_of n k)) s, ap (total (serves_of n k)) e)))
      (numbers_stay net a hold.numbers q [] [] refl
      (λ k. omega (arith, ap (total (number_on k)) s, ap (total (number_on k)) e)))

  -- an invocation begins that nobody waits for
  pub starts : (reason : Reason) (m : may p (Starts reason)) → CallsHold (After (Starts reason))
  starts reason m =
      let q = moved p (Starts reason) in
      now (Starts reason) m refl
      (Call.still net a hold.calls q refl (λ j. omega arith)
      (λ n k. omega (arith, serves_none n k reason m.0)))
      (numbers_stay net a hold.numbers q [] [] refl (λ k. omega arith))

  -- it asks a peer
  module _ (to : ℕ) (root : Bool) (m : may p (Asks to root)) where
    -- the calls, once it asked
    abbrev asked : Calls
    asked = moved p (Asks to root)

    -- its stack
    asked_stack : asked.stack
        ≡ record { reason = m.0; wait = On to p.next root } ∷ m.1.0
    asked_stack = ap (first_waits (On to p.next root)) m.1.1

    -- one call more is waited for
    asked_waits : (j : AnsweredCall) → waits asked j ≡ waits p j
        + (if j.peer == to then (if j.number == p.next then number_if (beq root j.root) else 0)
        else 0)
    asked_waits j =
        omega (
          arith,
          ap (total (on_of j)) asked_stack,
          ap (total (on_of j)) m.1.1,
          on_asked j to p.next m.0 root,
        )

    -- and as many are served
    asked_serves : (n k : ℕ) → total (serves_of n k) asked.stack ≡ total (serves_of n k) p.stack
    asked_serves n k =
        omega (arith, ap (total (serves_of n k)) asked_stack, ap (total (serves_of n k)) m.1.1)

    -- under the next number
    asked_numbers : (taken sent : List (Note Atom)) (x z : ℕ) →
        OneNumber (net_after a asked taken sent net) x z
    asked_numbers taken sent =
        number_given net a hold.numbers asked taken sent refl
        (λ k. omega (
          arith,
          ap (total (number_on k)) asked_stack,
          ap (total (number_on k)) m.1.1,
        ))

  -- a call, or a call for a root
  pub asks : (to : ℕ) (root : Bool) (m : may p (Asks to root)) → CallsHold (After (Asks to root))
  asks to false m =
      now (Asks to false) m refl
      (Call.asks_method net a hold.calls (asked to false m) refl to p.next
      (λ j. asked_waits to false m j ∙ go j.root (j.peer == to) (j.number == p.next) (waits p j))
      (asked_serves to false m))
      (asked_numbers to false m [] (note to (Called p.next)))
    where
      go : (r b c : Bool) (w : ℕ) →
          w + (if b then (if c then number_if (beq false r) else 0) else 0)
          ≡ w + (if b then (if c then (if r then 0 else 1) else 0) else 0)
      go true b c w = refl
      go false b c w = refl
  asks to true m =
      now (Asks to true) m refl
      (Call.asks_root net a hold.calls (asked to true m) refl to p.next
      (λ j. asked_waits to true m j ∙ go j.root (j.peer == to) (j.number == p.next) (waits p j))
      (asked_serves to true m))
      (asked_numbers to true m [] (note to (RootAsk p.next)))
    where
      go : (r b c : Bool) (w : ℕ) →
          w + (if b then (if c then number_if (beq true r) else 0) else 0)
          ≡ w + (if b then (if c then (if r then 1 else 0) else 0) else 0)
      go true b c w = refl
      go false b c w = refl

  -- it ends, and what it served is answered or not
  module _ (v : Move) (reason : Reason) (top : (rest : List Frame) × (p.stack ≡ idle reason ∷ rest))
    where
      -- the calls without it
      abbrev gone : Calls
      gone = record p { stack = behind p.stack }

      gone_waits : (j : AnsweredCall) → waits gone j ≡ waits p j
      gone_waits j =
          omega (arith, ap (λ fs. total (on_of j) (behind fs)) top.1, ap (total (on_of j)) top.1)

      gone_serves : (n k : ℕ) → total (serves_of n k) p.stack
          ≡ serves_of n k (idle reason) + total (serves_of n k) gone.stack
      gone_serves n k =
          omega (
            arith,
            ap (λ fs. total (serves_of n k) (behind fs)) top.1,
            ap (total (serves_of n k)) top.1,
          )

      gone_numbers : (taken sent : List (Note Atom)) (x z : ℕ) →
          OneNumber (net_after a gone taken sent net) x z
      gone_numbers taken sent =
          numbers_stay net a hold.numbers gone taken sent refl
          (λ k. omega (
            arith,
            ap (λ fs. total (number_on k) (behind fs)) top.1,
            ap (total (number_on k)) top.1,
          ))

  -- it answers a peer
  pub replies : (to k : ℕ) (m : may p (Replies to k)) → CallsHold (After (Replies to k))
  replies to k m =
      let v = Replies to k in
      let reason = reasons.Call to k in
      now v m refl
      (Call.replies net a hold.calls (gone v reason m.0) refl (gone_waits v reason m.0) to k
      (gone_serves v reason m.0))
      (gone_numbers v reason m.0 [] (note to (Answer k)))

  -- it can't
  pub drops : (to k : ℕ) (m : may p (Drops to k)) → CallsHold (After (Drops to k))
  drops to k m =
      let v = Drops to k in
      let reason = reasons.Call to k in
      now v m refl
      (Call.drops net a hold.calls (gone v reason m.0) refl (gone_waits v reason m.0) to k
      (gone_serves v reason m.0))
      (gone_numbers v reason m.0 [] [])

  -- nobody waits for it
  pub finishes : (reason : Reason) (m : may p (Finishes reason)) → CallsHold (After (Finishes
      reason))
  finishes reason m =
      let v = Finishes reason in
      now v m refl
      (Call.still net a hold.calls (gone v reason m.0) refl (gone_waits v reason m.0)
      (λ n k. omega (arith, gone_serves v reason m.0 n k, serves_none n k reason m.1)))
      (gone_numbers v reason m.0 [] [])

  -- it answers the one below it
  pub returns : (m : may p Returns) → CallsHold (After Returns)
  returns m =
      let q = moved p Returns in
      let s : q.stack ≡ first_rested m.0 = ap (λ fs. first_rested (behind fs)) m.1 in
      let low = (subst AreShaped m.1 (hold.shaped a)).0 refl in
      now Returns m refl
      (Call.still net a hold.calls q refl
      (λ j. omega (arith, ap (total (on_of j)) s, ap (total (on_of j)) m.1, rested_on m.0 low j))
      (λ n k. omega (
        arith,
        ap (total (serves_of n k)) s,
        ap (total (serves_of n k)) m.1,
        rested_serves n k m.0,
      )))
      (numbers_stay net a hold.numbers q [] [] refl
      (λ k. omega (
        arith,
        ap (total (number_on k)) s,
        ap (total (number_on k)) m.1,
        rested_numbers k m.0,
      )))

  -- it gives its call up
  pub gives_up : (c : LateCall) (m : may p (GivesUp c)) → CallsHold (After (GivesUp c))
  gives_up c m =
      let q = moved p (GivesUp c) in
      let s : q.stack ≡ idle m.0 ∷ m.1.0 = ap first_rested m.1.1 in
      now (GivesUp c) m refl
      (Call.still net a hold.calls q refl
      (λ j. omega (
        arith,
        ap (total (on_of j)) s,
        ap (total (on_of j)) m.1.1,
        total_inserted (late_of j) late_lt c p.late,
      ))
      (λ n k. omega (arith, ap (total (serves_of n k)) s, ap (total (serves_of n k)) m.1.1)))
      (numbers_stay net a hold.numbers q [] [] refl
      (λ k. omega (
        arith,
        ap (total (number_on k)) s,
        ap (total (number_on k)) m.1.1,
        total_inserted (number_late k) late_lt c p.late,
      )))
