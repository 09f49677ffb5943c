-- What an answer is to the invocation that waits for it.
use Rattle.do_behave.specs.declared.invocation.Waited.TheVariants as waiteds
use Rattle.std.specs.Prelude.{Bool, List, None, Some, [], false, filter, if◌then◌else◌, map, not}
use Rattle.std.specs.{Prelude.{true, ℕ, ◌&&◌, ◌==◌, ◌∷◌}, Bool.beq}
use Rattle.do_base.specs.{values.Kinds.number, declared.values.value.Value.Value}
use Rattle.do_base.specs.declared.events.exception.Exc.TheVariants.{TypeFault}
use Rattle.do_class.specs.{Class.Class, Table.signature_of}
use Rattle.do_sig.specs.{Calls.{encoding_fits, returned_fits}, Fits.each_takes}
use Rattle.do_sig.specs.declared.signature.Signature.{Signature}
use Rattle.do_behave.specs.declared.invocation.{Answer.Answer, Invocation.Invocation}
use Rattle.do_behave.specs.declared.invocation.{InvState.InvState, Waited.Waited}
use Rattle.do_behave.specs.declared.invocation.Answer.TheVariants.{Given, Raised}
use Rattle.do_behave.specs.declared.invocation.InvState.TheVariants.{Answered, Waits}
use Rattle.do_machine.specs.declared.{node.{Node.Node, LateCall.LateCall}, state.Effect.Effect}
use Rattle.do_machine.specs.{Effect.only, Lists.change_first, run.Send.outs_of}

-- a root was asked for, and no method
abbrev pub is_for_root : Waited → Bool
is_for_root waiteds.Root = true
is_for_root _ = false

-- a call, as its answer names it: the peer that answers, the number, and whether it was for a root
pub record AnsweredCall : Type 0 where
  pub peer : ℕ
  pub number : ℕ
  pub root : Bool

-- a call that was asked so is the one that is answered
abbrev pub is_answered : AnsweredCall → ℕ → ℕ → Waited → Bool
is_answered k peer number what =
    (number == k.number) && (peer == k.peer) && beq (is_for_root what) k.root

-- an invocation of this state waits for the answer
abbrev pub awaits : AnsweredCall → InvState → Bool
awaits k (Waits call peer what) = is_answered k peer call.number what
awaits k _ = false

-- the state of an invocation that waited, by what it asked for
abbrev pub answered_state : (Waited → Answer) → InvState → InvState
answered_state answer (Waits call peer what) = Answered (answer what)
answered_state answer state = state

-- the invocation with its answer
abbrev pub with_answer : (Waited → Answer) → Invocation → Invocation
with_answer answer i = record i { state = answered_state answer i.state }

-- the invocation that waits for the answer has it, wherever it stands
abbrev pub stack_answered : AnsweredCall → (Waited → Answer) → List Invocation → List Invocation
stack_answered k answer stack =
    change_first (λ i. awaits k i.state) (with_answer answer) stack

-- the late calls but the one that is answered
abbrev pub late_answered : AnsweredCall → List LateCall → List LateCall
late_answered k late = filter (λ c. not (is_answered k c.peer c.number c.what)) late

-- an answer goes to the invocation that waits for it, or ends a late call
abbrev pub answering : AnsweredCall → (Waited → Answer) → Node → Effect
answering k answer n = only (record n {
  stack = stack_answered k answer n.stack;
  late = late_answered k n.late;
})

-- a result and out values that fit the method that was called
abbrev pub method_answer : Signature → Value → List Value → Answer
method_answer s v vs =
    if returned_fits s v && each_takes (map encoding_fits (outs_of s s.args)) vs then Given v vs
    else Raised TypeFault

-- what values are as an answer
abbrev pub values_answer : List Class → List Value → Waited → Answer
values_answer table (v ∷ vs) (waiteds.Method method) =
    elim (signature_of table method) [ None ↦ Raised TypeFault | Some s ↦ method_answer s v vs ]
values_answer table (v ∷ []) waiteds.Root = Given v []
values_answer table _ _ = Raised TypeFault
