-- A call that is given up, and its answer.
use Rattle.do_base.specs.declared.events.shown.Shown.TheVariants as shows
use Rattle.do_base.specs.declared.events.shown.Took.TheVariants as tooks
use Rattle.do_machine.specs.declared.item.Item.TheVariants as items
use Rattle.std.{proofs.Common.{◌≡◌, [], ◌∷◌, refl}, specs.Prelude.{Some, option_map}}
use Rattle.do_base.specs.declared.values.value.Value.TheVariants.{Nil}
use Rattle.do_base.specs.declared.events.exception.Exc.TheVariants.{ConnectionDied, Range, TimedOut}
use Rattle.do_behave.specs.declared.invocation.Answer.TheVariants.{Given, Raised}
use Rattle.do_behave.specs.declared.invocation.InvState.TheVariants.{Answered}
use Rattle.do_machine.specs.{ends.{Closing.closing, TimeOut.time_out}, take.Awaiting.answering}
use Rattle.do_machine.specs.take.Take.{method_call, root_call, take_effect}
use Rattle.examples_whole.proofs.Samples.{invocation, judged, late_call, node_with, waiting}

-- a time-out makes the call of the top invocation late, and the invocation has an exception
given_up : option_map (λ e. e.node) (time_out (node_with (waiting 3 ∷ []) (late_call 1 ∷ [])))
    ≡ Some (node_with (invocation [] (Answered (Raised TimedOut)) ∷ [])
    (late_call 1 ∷ late_call 3 ∷ []))
given_up = refl

-- a late call is ended by the exception that answers it, and the call that is waited for is not
ended_by_an_exception :
    (take_effect (judged (node_with (waiting 4 ∷ []) (late_call 3 ∷ []))) 7002
    (items.Raised 3 Range)).node
    ≡ node_with (waiting 4 ∷ []) []
ended_by_an_exception = refl

-- the exception is shown as it is taken, and nowhere else
shown_once :
    (take_effect (judged (node_with [] (late_call 3 ∷ []))) 7002 (items.Raised 3 Range)).shown
    ≡ shows.Took (tooks.Raised Range) ∷ []
shown_once = refl

-- it is ended by a result too
ended_by_a_result :
    (answering (method_call 7002 3) (λ what. Given Nil [])
    (node_with (waiting 4 ∷ []) (late_call 3 ∷ late_call 5 ∷ []))).node
    ≡ node_with (waiting 4 ∷ []) (late_call 5 ∷ [])
ended_by_a_result = refl

-- an answer of another peer leaves it
left_by_others :
    (answering (method_call 7003 3) (λ what. Given Nil []) (node_with [] (late_call 3 ∷ []))).node
    ≡ node_with [] (late_call 3 ∷ [])
left_by_others = refl

-- nor does one to a call for a root end it
left_by_a_root :
    (answering (root_call 7002 3) (λ what. Given Nil []) (node_with [] (late_call 3 ∷ []))).node
    ≡ node_with [] (late_call 3 ∷ [])
left_by_a_root = refl

-- a close ends it, and the call that is waited for fails
ended_by_a_close :
    (closing 7002 (node_with (waiting 4 ∷ []) (late_call 3 ∷ []))).node
    ≡ record (node_with (invocation [] (Answered (Raised ConnectionDied)) ∷ []) []) {
      open_to = 7003 ∷ [];
    }
ended_by_a_close = refl
