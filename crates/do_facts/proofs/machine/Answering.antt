-- Which invocation an answer goes to.
use Rattle.std.proofs.Common.{◌≡◌, ◌||◌, ℕ, Bool, true, false, List, [], ◌∷◌, ◌++◌, refl, sym, ap}
use Rattle.std.{proofs.Common.{◌∙◌, arith, subst}, specs.Prelude.{All, IfSome, Option}}
use Rattle.std.{specs.List.list_any, proofs.lemmas.Grind.common_steps}
use Rattle.std.proofs.lemmas.List.{Elements.{All-head, All-tail}, Sorted.list_any-IsPermutation}
use Rattle.do_base.specs.names.Names.{CallName}
use Rattle.do_behave.specs.declared.invocation.{Answer.Answer, Invocation.Invocation}
use Rattle.do_behave.specs.declared.invocation.{InvState.TheVariants.Waits, Waited.Waited}
use Rattle.do_machine.specs.{declared.node.{LateCall.LateCall, Node.Node}, Lists.inserted}
use Rattle.do_machine.specs.ends.TimeOut.{give_up, late_lt, time_out, time_out_on}
use Rattle.do_facts.specs.laws.Calls.{IsGivenUp, answered_call}
use Rattle.do_machine.specs.take.Awaiting.{AnsweredCall, answering, awaits, is_answered}
use Rattle.do_machine.specs.take.Awaiting.{stack_answered, with_answer}
use Rattle.do_machine.proofs.Inserting.{inserted_moves}
use Rattle.do_facts.proofs.machine.Parting.{none_left}
use Rattle.do_behave.specs.declared.invocation.InvState.{InvState}
use Rattle.do_machine.specs.declared.state.Effect.{Effect}

-- no invocation of these waits for the answer
abbrev NoneAwaits : AnsweredCall → List Invocation → Type 0
NoneAwaits k stack = All (λ i. awaits k i.state ≡ false) stack

module _ (k : AnsweredCall) (answer : Waited → Answer) where
  -- the first that passes is changed, behind those that do not
  caller_in : (above : List Invocation) (i : Invocation) (below : List Invocation) →
      NoneAwaits k above → awaits k i.state ≡ true →
      stack_answered k answer (above ++ i ∷ below) ≡ above ++ with_answer answer i ∷ below
  caller_in [] i below none h = rw h
  caller_in (j ∷ above) i below none h =
      let P : Invocation → Type 0 = λ x. awaits k x.state ≡ false in
      rw (All-head P j above none)
      (ap (λ l. j ∷ l) (caller_in above i below (All-tail P j above none) h))

  -- where none passes, nothing changes
  no_caller_in : (stack : List Invocation) → NoneAwaits k stack →
      stack_answered k answer stack ≡ stack
  no_caller_in [] none = refl
  no_caller_in (j ∷ stack) none =
      let P : Invocation → Type 0 = λ x. awaits k x.state ≡ false in
      rw (All-head P j stack none)
      (ap (λ l. j ∷ l) (no_caller_in stack (All-tail P j stack none)))

  -- an answer goes to the first that waits for it
  pub finds_caller : (n : Node) (above : List Invocation) (i : Invocation)
      (below : List Invocation) → n.stack ≡ above ++ i ∷ below → NoneAwaits k above →
      awaits k i.state ≡ true →
      (answering k answer n).node.stack ≡ above ++ with_answer answer i ∷ below
  finds_caller n above i below e none h =
      ap (stack_answered k answer) e ∙ caller_in above i below none h

  -- and to no other
  pub finds_no_other : (n : Node) → NoneAwaits k n.stack →
      (answering k answer n).node.stack ≡ n.stack
  finds_no_other n none = no_caller_in n.stack none

  -- the late call that is answered is over
  pub late_is_over : (n : Node) →
      All (λ c. is_answered k c.peer c.number c.what ≡ false) (answering k answer n).node.late
  late_is_over n = none_left (λ c. is_answered k c.peer c.number c.what) n.late

-- a call is answered by its own answer
answers_itself : (call : CallName) (peer : ℕ) (what : Waited) →
    is_answered (answered_call call peer what) peer call.number what ≡ true
answers_itself call peer what = grind (arith, common_steps)

-- a time-out gives up the call of the top invocation: it is late, and this has an exception
pub given_up : (n : Node) (i : Invocation) (below : List Invocation) (call : CallName)
    (peer : ℕ) (what : Waited) → n.stack ≡ i ∷ below → i.state ≡ Waits call peer what →
    IfSome (time_out n) (IsGivenUp i below call peer what)
given_up n i below call peer what stack state =
    let Q : Option Effect → Type 0 = λ e. IfSome e (IsGivenUp i below call peer what) in
    let c : LateCall = record { number = call.number; peer = peer; what = what } in
    let k = answered_call call peer what in
    let test : LateCall → Bool = λ d. is_answered k d.peer d.number d.what in
    subst (λ (s : List Invocation). Q (time_out_on s n)) (sym stack)
    (subst (λ (s : InvState). Q (give_up s i below n)) (sym state) (record {
      stack = refl;
      late = sym (list_any-IsPermutation test (c ∷ n.late) (inserted late_lt c n.late)
          (inserted_moves late_lt c n.late))
          ∙ ap (λ b. b || list_any test n.late) (answers_itself call peer what);
    }))
