-- How often objects are used, where invocations come to wait or are answered.
use Rattle.std.proofs.Common.{◌≡◌, ℕ, ◌+◌, Bool, true, false, cond, List as Listed, [], ◌∷◌, ◌++◌}
use Rattle.std.{proofs.Common.{Some, map, refl, ap, arith, IsSome}, specs.Prelude.{slice_get, ◌==◌}}
use Rattle.std.{specs.Option.is_some, proofs.lemmas.List.Sums.sum_by-cons}
use Rattle.do_base.specs.names.Names.{ObjectName, CallName}
use Rattle.do_base.specs.declared.values.value.Value.TheVariants.{Obj}
use Rattle.do_base.specs.declared.events.exception.Exc.TheVariants.{ConnectionDied, TimedOut}
use Rattle.do_behave.specs.declared.invocation.Answer.{Answer, TheVariants.Raised}
use Rattle.do_behave.specs.declared.invocation.{Invocation.Invocation, InvState.InvState}
use Rattle.do_behave.specs.declared.invocation.InvState.TheVariants.{Running, Below, Waits}
use Rattle.do_behave.specs.declared.invocation.{InvState.TheVariants.Answered, Waited.Waited}
use Rattle.do_machine.specs.ends.Closing.{died, without_answer}
use Rattle.do_machine.specs.{held.Refers.{answer_values, state_values}, run.Changes.answered}
use Rattle.do_stack.specs.Answered.{answer_of, top_answer, state_taken, answer_taken, values_taken}
use Rattle.do_stack.specs.{Late.{late_of, top_call}, Uses.{uses, invocation_values, stack_uses}}
use Rattle.do_stack.specs.Waiting.{waits_for, asked_by, waiting, with_answer, with_top}
use Rattle.do_stack.proofs.{Answers.waits_asked, UsesMove.{uses-cons, uses-append}}

-- an invocation of another state uses the values of that state in place of those before
uses-state : (o : ObjectName) (i : Invocation) (s : InvState)
    → uses o (invocation_values (record i { state = s })) + uses o (state_values i.state)
    ≡ uses o (invocation_values i) + uses o (state_values s)
uses-state o i s =
    let a = uses-cons o (Obj i.object) (i.locals ++ state_values i.state) in
    let b = uses-cons o (Obj i.object) (i.locals ++ state_values s) in
    let c = uses-append o i.locals (state_values i.state) in
    let d = uses-append o i.locals (state_values s) in
    omega arith

-- an invocation more is used besides
pub stack-cons : (o : ObjectName) (i : Invocation) (below : Listed Invocation)
    → stack_uses o (i ∷ below) ≡ uses o (invocation_values i) + stack_uses o below
stack-cons o i below = sum_by-cons (λ j. uses o (invocation_values j)) i below

-- so it goes for the top of a stack
top_state : (o : ObjectName) (i : Invocation) (below : Listed Invocation) (s : InvState)
    → stack_uses o (record i { state = s } ∷ below) + uses o (state_values i.state)
    ≡ stack_uses o (i ∷ below) + uses o (state_values s)
top_state o i below s =
    let a = stack-cons o i below in
    let b = stack-cons o (record i { state = s }) below in
    let c = uses-state o i s in
    omega arith

-- a state uses no more than what its answer has, which is taken
taken_values : (o : ObjectName) (s : InvState)
    → uses o (state_values (state_taken s)) + uses o (values_taken (answer_of s))
    ≡ uses o (state_values s)
taken_values o Running = refl
taken_values o Below = refl
taken_values o (Waits call peer what) = refl
taken_values o (Answered a) = omega arith

-- what the answer of the top uses goes with it
pub take_moves : (o : ObjectName) (stack : Listed Invocation)
    → stack_uses o (with_top answer_taken stack) + uses o (values_taken (top_answer stack))
    ≡ stack_uses o stack
take_moves o [] = refl
take_moves o (i ∷ below) =
    let a = top_state o i below (state_taken i.state) in
    let b = taken_values o i.state in
    omega arith

-- an invocation that comes to wait uses what it had in an answer no more
pub wait_moves : (o : ObjectName) (stack : Listed Invocation) (top : Invocation) (call : CallName)
    (peer : ℕ) (what : Waited) → slice_get stack 0 ≡ Some top
    → stack_uses o (with_top (λ i. record i { state = Waits call peer what }) stack)
    + uses o (state_values top.state)
    ≡ stack_uses o stack
wait_moves o [] top call peer what is = absurd (cc)
wait_moves o (i ∷ below) top call peer what is =
    let same = ap (λ (j : Invocation). uses o (state_values j.state)) (the is) in
    let a = top_state o i below (Waits call peer what) in
    omega arith
  where
    -- the top is the first
    the : Some i ≡ Some top → i ≡ top
    the e = cc

-- what waits for a call has no values
waits_none : (call : CallName) (peer : ℕ) (s : InvState) → waits_for call peer s ≡ true
    → state_values s ≡ []
waits_none call peer Running h = refl
waits_none call peer Below h = refl
waits_none call peer (Waits c p what) h = refl
waits_none call peer (Answered a) h = absurd (cc)

-- the values of an answer are used where it is waited for
pub answer_moves : (o : ObjectName) (call : CallName) (peer : ℕ) (a : Answer)
    (stack : Listed Invocation) → stack_uses o (with_answer call peer a stack)
    ≡ stack_uses o stack + cond (is_some (waiting call peer stack)) (uses o (answer_values a)) 0
answer_moves o call peer a [] = refl
answer_moves o call peer a (i ∷ below) =
    go (waits_for call peer i.state) refl (answer_moves o call peer a below)
  where
    -- by whether the first one waits
    go : (b : Bool) → waits_for call peer i.state ≡ b
        → stack_uses o (with_answer call peer a below)
        ≡ stack_uses o below + cond (is_some (waiting call peer below)) (uses o (answer_values a)) 0
        → stack_uses o (with_answer call peer a (i ∷ below))
        ≡ stack_uses o (i ∷ below)
        + cond (is_some (waiting call peer (i ∷ below))) (uses o (answer_values a)) 0
    go true waits rest =
        let after = ap (λ b. stack_uses o (cond b (answered a i ∷ below)
        (i ∷ with_answer call peer a below))) waits in
        let asked = ap (λ b. cond (is_some (cond b (asked_by i.state) (waiting call peer below)))
        (uses o (answer_values a)) 0) waits in
        let some = ap (λ b. cond b (uses o (answer_values a)) 0) (waits_asked call peer i.state
        waits) in
        let moved = top_state o i below (Answered a) in
        let none = ap (uses o) (waits_none call peer i.state waits) in
        omega arith
    go false waits rest =
        let after = ap (λ b. stack_uses o (cond b (answered a i ∷ below)
        (i ∷ with_answer call peer a below))) waits in
        let asked = ap (λ b. cond (is_some (cond b (asked_by i.state) (waiting call peer below)))
        (uses o (answer_values a)) 0) waits in
        let old = stack-cons o i below in
        let new = stack-cons o i (with_answer call peer a below) in
        omega arith

-- the connection's death has no values
died_values : (o : ObjectName) (peer : ℕ) (s : InvState)
    → uses o (state_values (died peer s)) ≡ uses o (state_values s)
died_values o peer Running = refl
died_values o peer Below = refl
died_values o peer (Answered a) = refl
died_values o peer (Waits call p what) = elim (p == peer) as (λ b. uses o
    (state_values (cond b (Answered (Raised ConnectionDied)) (Waits call p what))) ≡ 0)
    [ true ↦ refl | false ↦ refl ]

-- the loss of a peer changes no use
pub fail_moves : (o : ObjectName) (peer : ℕ) (stack : Listed Invocation)
    → stack_uses o (map (without_answer peer) stack) ≡ stack_uses o stack
fail_moves o peer [] = refl
fail_moves o peer (i ∷ below) =
    let old = stack-cons o i below in
    let new = stack-cons o (without_answer peer i) (map (without_answer peer) below) in
    let rest = fail_moves o peer below in
    let a = uses-state o i (died peer i.state) in
    let b = died_values o peer i.state in
    omega arith

-- a call that is given up is waited for, so that its invocation has no values
late_none : (s : InvState) → IsSome (late_of s) → state_values s ≡ []
late_none Running h = refl
late_none Below h = refl
late_none (Waits c p what) h = refl
late_none (Answered a) h = absurd (cc)

-- a time-out in place of the answer changes no use
pub abandon_moves : (o : ObjectName) (stack : Listed Invocation) → IsSome (top_call stack)
    → stack_uses o (with_top (answered (Raised TimedOut)) stack) ≡ stack_uses o stack
abandon_moves o [] some = refl
abandon_moves o (i ∷ below) some =
    let moved = top_state o i below (Answered (Raised TimedOut)) in
    let was = ap (uses o) (late_none i.state some) in
    omega arith

-- what the changes of a stack add to the uses of an object, or take off
pub ruleset kept_uses =
    (stack-cons, take_moves, wait_moves, answer_moves, fail_moves, abandon_moves)
