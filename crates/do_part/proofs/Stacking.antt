-- What the names in a stack are once answers came, went or were given up.
use Rattle.std.proofs.Common.{◌≡◌, ℕ, ◌+◌, Bool, true, false, cond, eqb, List as Listed, [], ◌∷◌}
use Rattle.std.proofs.Common.{IsSome, Some, map, refl, ap, arith, ◌<◌, length, inl, inr}
use Rattle.std.specs.Prelude.{slice_get}
use Rattle.do_base.specs.names.Names.{ObjectName}
use Rattle.do_base.specs.declared.events.exception.Exc.TheVariants.{ConnectionDied, TimedOut}
use Rattle.do_behave.specs.declared.invocation.{Answer.{Answer, TheVariants.Raised}, Waited.Waited}
use Rattle.do_behave.specs.declared.invocation.{Invocation.Invocation, InvState.InvState}
use Rattle.do_behave.specs.declared.invocation.InvState.TheVariants.{Running, Below, Waits}
use Rattle.do_behave.specs.declared.invocation.InvState.TheVariants.{Answered}
use Rattle.do_machine.specs.ends.Closing.{died, without_answer}
use Rattle.do_machine.specs.held.Refers.{answer_values, state_values}
use Rattle.do_machine.specs.{run.Changes.{answered, stands}, take.Awaiting.answered_state}
use Rattle.do_stack.specs.Answered.{answer_of, answer_taken, state_taken, top_answer, values_taken}
use Rattle.do_stack.specs.{Late.{late_of, top_call}, Waiting.with_top}
use Rattle.do_part.specs.Names.{values_of, stack_of}
use Rattle.do_part.proofs.{Answering.state-moves, Exchanging.stack-cons, Numbering.Eases}

-- an invocation that loses a peer names what it named
died-values : (peer : ℕ) (s : InvState) → state_values (died peer s) ≡ state_values s
died-values peer Running = refl
died-values peer Below = refl
died-values peer (Waits call p what) = go (eqb p peer)
  where
    go : (b : Bool)
        → state_values (cond b (Answered (Raised ConnectionDied)) (Waits call p what)) ≡ []
    go true = refl
    go false = refl
died-values peer (Answered a) = refl

-- so do all invocations
pub died-moves : (peer : ℕ) (stack : Listed Invocation) (o : ObjectName)
    → stack_of (map (without_answer peer) stack) o ≡ stack_of stack o
died-moves peer [] o = refl
died-moves peer (i ∷ below) o =
    let a = state-moves i (map (without_answer peer) below) (died peer i.state) o in
    let b = ap (λ l. values_of l o) (died-values peer i.state) in
    let c = stack-cons i below o in
    let d = stack-cons i (map (without_answer peer) below) o in
    let e = died-moves peer below o in
    omega arith

-- what waits for a call has no values
late-values : (s : InvState) → IsSome (late_of s) → state_values s ≡ []
late-values Running some = absurd (cc)
late-values Below some = absurd (cc)
late-values (Waits call p what) some = refl
late-values (Answered a) some = absurd (cc)

-- a call that is given up takes nothing away
pub abandon-moves : (stack : Listed Invocation) (o : ObjectName) → IsSome (top_call stack)
    → stack_of (with_top (answered (Raised TimedOut)) stack) o ≡ stack_of stack o
abandon-moves [] o some = refl
abandon-moves (i ∷ below) o some =
    let a = state-moves i below (Answered (Raised TimedOut)) o in
    let b = ap (λ l. values_of l o) (late-values i.state some) in
    omega arith

-- what a state has is what was taken and what is left
taken-values : (s : InvState) (o : ObjectName)
    → values_of (values_taken (answer_of s)) o + values_of (state_values (state_taken s)) o
    ≡ values_of (state_values s) o
taken-values Running o = refl
taken-values Below o = refl
taken-values (Waits call p what) o = refl
taken-values (Answered a) o = omega arith

-- an answer that is taken takes its names away
pub taken-moves : (stack : Listed Invocation) (o : ObjectName)
    → stack_of (with_top answer_taken stack) o + values_of (values_taken (top_answer stack)) o
    ≡ stack_of stack o
taken-moves [] o = refl
taken-moves (i ∷ below) o =
    let a = state-moves i below (state_taken i.state) o in
    let b = taken-values i.state o in
    omega arith

-- the top changed twice is changed by both
pub top-twice : (f g : Invocation → Invocation) (stack : Listed Invocation)
    → with_top f (with_top g stack) ≡ with_top (λ i. f (g i)) stack
top-twice f g [] = refl
top-twice f g (i ∷ below) = refl

-- and is still there
pub top-there : (f : Invocation → Invocation) (stack : Listed Invocation) → 0 < length stack
    → 0 < length (with_top f stack)
top-there f [] some = some
top-there f (i ∷ below) some = some

-- the top stands in a state without values, and had none
pub stands-moves : (pc into : ℕ) (outs : Listed ℕ) (s : InvState) (stack : Listed Invocation)
    (o : ObjectName) → state_values s ≡ []
    → ((top : Invocation) → slice_get stack 0 ≡ Some top → state_values top.state ≡ [])
    → stack_of (with_top (stands pc into outs s) stack) o ≡ stack_of stack o
stands-moves pc into outs s [] o none used = refl
stands-moves pc into outs s (i ∷ below) o none used =
    let a = state-moves i below s o in
    let b = ap (λ l. values_of l o) none in
    let c = ap (λ l. values_of l o) (used i refl) in
    omega arith

-- a list whose length is not 0 has something
pub not-empty : {X : Type 0} (xs : Listed X) (count : ℕ) → count ≡ length xs → (count ≡ 0 → ⊥)
    → 0 < length xs
not-empty [] count is some = absurd (some is)
not-empty (x ∷ xs) count is some = omega arith

-- the top has an answer in place of what it had
pub answered-moves : (a : Answer) (stack : Listed Invocation) (s : InvState) (o : ObjectName)
    → 0 < length stack
    → ((top : Invocation) → slice_get stack 0 ≡ Some top → s ≡ top.state)
    → stack_of (with_top (answered a) stack) o + values_of (state_values s) o
    ≡ stack_of stack o + values_of (answer_values a) o
answered-moves a [] s o some was = absurd (omega (arith, some))
answered-moves a (i ∷ below) s o some was =
    let x = state-moves i below (Answered a) o in
    let y = ap (λ t. values_of (state_values t) o) (was i refl) in
    omega arith

-- an invocation that loses a peer waits for nothing then, or for another
pub died-eases : (peer : ℕ) (s : InvState) → Eases s (died peer s)
died-eases peer Running = inl refl
died-eases peer Below = inl refl
died-eases peer (Waits call p what) = go (eqb p peer)
  where
    go : (b : Bool)
        → Eases (Waits call p what)
        (cond b (Answered (Raised ConnectionDied)) (Waits call p what))
    go true = inr refl
    go false = inl refl
died-eases peer (Answered a) = inl refl

-- an invocation whose answer is taken waits for what it waited for
pub taken-eases : (s : InvState) → Eases s (state_taken s)
taken-eases Running = inl refl
taken-eases Below = inl refl
taken-eases (Waits call p what) = inl refl
taken-eases (Answered a) = inr refl

-- an invocation that a peer answers waits for nothing then
pub answered-eases : (f : Waited → Answer) (s : InvState) → Eases s (answered_state f s)
answered-eases f Running = inl refl
answered-eases f Below = inl refl
answered-eases f (Waits call p what) = inr refl
answered-eases f (Answered a) = inl refl
