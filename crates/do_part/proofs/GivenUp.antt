-- A call that is given up is late under its number, which no other call has.
use Rattle.std.proofs.Common.{◌≡◌, ℕ, ◌+◌, ◌≤◌, Bool, true, false, cond, eqb, List as Listed, []}
use Rattle.std.proofs.Common.{◌∷◌, Some, IsSome, refl, sym, ap, arith, eq-eqb, inr}
use Rattle.std.specs.Prelude.{not}
use Rattle.std.proofs.lemmas.List.{Sums.sum_by-cons, Sorted.sum_by-IsPermutation}
use Rattle.do_base.specs.declared.events.exception.Exc.TheVariants.{TimedOut}
use Rattle.do_behave.specs.declared.invocation.{Answer.TheVariants.Raised, Invocation.Invocation}
use Rattle.do_behave.specs.declared.invocation.InvState.{InvState, TheVariants.{Running, Below}}
use Rattle.do_behave.specs.declared.invocation.InvState.TheVariants.{Waits, Answered}
use Rattle.do_machine.specs.{Effect.only, Lists.inserted, declared.node.LateCall.LateCall}
use Rattle.do_machine.specs.{declared.node.Node.Node, ends.TimeOut.{late_lt, time_out, time_out_on}}
use Rattle.do_machine.{specs.run.Changes.answered, proofs.Inserting.inserted_moves}
use Rattle.do_stack.specs.{Late.top_call, LateCalls.{kept, others}, Waiting.with_top}
use Rattle.do_part.specs.Numbered.{IsNumbered, late_at, waits_at, waits_away}
use Rattle.do_part.proofs.Numbering.{weigh, eased-top, late-filter, numbered-fewer, away-waiting}

-- where a time-out is enabled, the top waits for a call
pub enabled_call : (stack : Listed Invocation) (n : Node) → IsSome (time_out_on stack n)
    → IsSome (top_call stack)
enabled_call [] n some = some
enabled_call (i ∷ below) n some = go i.state some
  where
    go : (s : InvState) → IsSome (time_out_on (record i { state = s } ∷ below) n)
        → IsSome (top_call (record i { state = s } ∷ below))
    go Running enabled = absurd (cc)
    go Below enabled = absurd (cc)
    go (Waits call peer what) enabled = refl
    go (Answered a) enabled = absurd (cc)

-- late calls of which none has a number are all others
others-all : (n : ℕ) (late : Listed LateCall) → late_at n late ≡ 0 → others n late ≡ late
others-all n [] none = refl
others-all n (c ∷ cs) none = go (eqb c.number n) refl (others-all n cs)
  where
    go : (b : Bool) → eqb c.number n ≡ b → (late_at n cs ≡ 0 → others n cs ≡ cs)
        → cond (not b) (c ∷ others n cs) (others n cs) ≡ (c ∷ cs)
    go true e later =
        let x = sum_by-cons (λ (d : LateCall). cond (eqb d.number n) 1 0) c cs in
        let y : ◌≡◌ {A = ℕ} (cond (eqb c.number n) 1 0) 1 = ap (λ b. cond b 1 0) e in
        absurd (omega (arith, x, y, none))
    go false e later =
        let x = sum_by-cons (λ (d : LateCall). cond (eqb d.number n) 1 0) c cs in
        ap (λ l. c ∷ l) (later (omega (arith, x, none)))

-- a late call more counts at its number
late-kept : (c : LateCall) (late : Listed LateCall) (k : ℕ)
    → late_at k (kept c late) ≤ cond (eqb c.number k) 1 0 + late_at k late
late-kept c late k =
    let x = sum_by-IsPermutation (λ (d : LateCall). cond (eqb d.number k) 1 0)
    (c ∷ others c.number late) (kept c late) (inserted_moves late_lt c (others c.number late)) in
    let y = sum_by-cons (λ (d : LateCall). cond (eqb d.number k) 1 0) c (others c.number late) in
    let z = late-filter (λ (d : LateCall). not (eqb d.number c.number)) late k in
    omega (arith, x, y, z)

-- the call that is given up was waited for
given-up : (stack : Listed Invocation) (c : LateCall) (k : ℕ) → top_call stack ≡ Some c
    → weigh (waits_at k) (with_top (answered (Raised TimedOut)) stack) + cond (eqb c.number k) 1 0
    ≡ weigh (waits_at k) stack
given-up [] c k is = absurd (cc)
given-up (i ∷ below) c k is =
    let x = sum_by-cons (λ (j : Invocation). waits_at k j.state) i below in
    let y = sum_by-cons (λ (j : Invocation). waits_at k j.state) (answered (Raised TimedOut) i)
    below in
    let z = go i.state is in
    omega (arith, x, y, z)
  where
    go : (s : InvState) → top_call (record i { state = s } ∷ below) ≡ Some c
        → cond (eqb c.number k) 1 0 ≡ waits_at k s
    go Running there = absurd (cc)
    go Below there = absurd (cc)
    go (Waits call peer what) there =
        let e : record { number = call.number; peer = peer; what = what } ≡ c = cc in
        ap (λ (d : LateCall). cond (eqb d.number k) 1 0) (sym e)
    go (Answered a) there = absurd (cc)

module _ (port next : ℕ) (a : Listed Invocation) (l : Listed LateCall) (c : LateCall)
    (s : IsNumbered port a l next) (is : top_call a ≡ Some c) where
  -- no late call has its number
  pub kept-inserted : kept c l ≡ inserted late_lt c l
  kept-inserted =
      let x = s.once c.number in
      let y = given-up a c c.number is in
      let z : ◌≡◌ {A = ℕ} (cond (eqb c.number c.number) 1 0) 1 =
      ap (λ b. cond b 1 0) (eq-eqb c.number c.number refl) in
      ap (inserted late_lt c) (others-all c.number l (omega (arith, x, y, z)))

  -- and calls are numbered once as before
  pub numbered_late : IsNumbered port (with_top (answered (Raised TimedOut)) a) (kept c l) next
  numbered_late =
      numbered-fewer port next a (with_top (answered (Raised TimedOut)) a) l (kept c l) s
      (λ k. let x = given-up a c k is in let y = late-kept c l k in omega (arith, x, y))
      ((eased-top (answered (Raised TimedOut)) a (λ i. inr refl)).less (waits_away port)
      (away-waiting port))

-- the node once the call was given up
abbrev pub given_up : LateCall → Node → Node
given_up c n = record n {
  stack = with_top (answered (Raised TimedOut)) n.stack;
  late = inserted late_lt c n.late;
}

-- so it is a time-out
pub time_out-is : (n : Node) (c : LateCall) → top_call n.stack ≡ Some c
    → time_out n ≡ Some (only (given_up c n))
time_out-is n c is = go n.stack is
  where
    go : (stack : Listed Invocation) → top_call stack ≡ Some c
        → time_out_on stack n ≡ Some (only (record n {
          stack = with_top (answered (Raised TimedOut)) stack;
          late = inserted late_lt c n.late;
        }))
    go [] there = absurd (cc)
    go (i ∷ below) there = by_state i.state there
      where
        by_state : (t : InvState) → top_call (record i { state = t } ∷ below) ≡ Some c
            → time_out_on (record i { state = t } ∷ below) n ≡ Some (only (record n {
              stack = with_top (answered (Raised TimedOut)) (record i { state = t } ∷ below);
              late = inserted late_lt c n.late;
            }))
        by_state Running found = absurd (cc)
        by_state Below found = absurd (cc)
        by_state (Waits call peer what) found =
            let e : record { number = call.number; peer = peer; what = what } ≡ c = cc in
            ap (λ (d : LateCall). Some (only (record n {
              stack = answered (Raised TimedOut) i ∷ below;
              late = inserted late_lt d n.late;
            }))) e
        by_state (Answered a) found = absurd (cc)
