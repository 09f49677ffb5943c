-- What becomes of items that a node takes, of answers, and of what a node sends.
use Rattle.do_base.specs.declared.events.shown.Shown.TheVariants as shows
use Rattle.do_behave.specs.declared.invocation.Reason.TheVariants as reasons
use Rattle.do_behave.specs.declared.invocation.Waited.TheVariants as waiteds
use Rattle.std.proofs.Common.{◌≡◌, ℕ, true, List, [], ◌∷◌, replicate, None, refl}
use Rattle.std.specs.Prelude.{Err, codes}
use Rattle.do_base.specs.declared.{values.value.Value.Value, events.exception.Exc.Exc}
use Rattle.do_base.specs.declared.events.exception.Exc.TheVariants.{NotUnderstood, NotVended}
use Rattle.do_base.specs.declared.events.exception.Exc.TheVariants.{TypeFault}
use Rattle.do_behave.specs.declared.invocation.Answer.{Answer, TheVariants.Raised}
use Rattle.do_behave.specs.declared.invocation.InvState.TheVariants.{Answered}
use Rattle.do_machine.specs.declared.{item.{Item.Item, Message.Message}, node.Node.Node}
use Rattle.do_machine.specs.{Commit.{commit, with_sent}, Context.{Context, RunContext, context}}
use Rattle.do_machine.specs.{Effect.{only, queueing, showing}, run.Delivery.{delivery, failing}}
use Rattle.do_machine.specs.{run.Fresh.with_stack, take.Awaiting.{stack_answered, values_answer}}
use Rattle.do_machine.specs.take.{Requests.{admission, refusing}, Take.method_call}
use Rattle.do_world.specs.Counter.{counter_classes}
use Rattle.examples_whole.proofs.Counters.{a_text, at_first, client, closed, counter, five, going}
use Rattle.examples_whole.proofs.Samples.{waiting}

-- a message to the counter, whose values do not count here
abbrev message : List ℕ → Message
message selector = record {
  target = 1;
  selector = selector;
  packet = record { names = []; copies = []; values = [] };
}

-- the counter's node, which sees an entry of each object at each peer
abbrev entered : Node → Context
entered n = record {
  table = counter_classes;
  around = record { class_of = λ o. None; entry = λ peer serial. true };
  node = n;
}

-- the counter's node with as many invocations as a node has
abbrev full : Node
full = with_stack (replicate 256 (going five)) counter

-- a peer without an entry is not told whether there is such a method
no_entry_goes_before_no_method : (values : List Value)
    → admission (context counter_classes at_first counter) 7001 (message (codes "go:")) values
    ≡ Err NotVended
no_entry_goes_before_no_method values = refl

-- without a method neither the values nor the full stack count
no_method_goes_before_the_rest :
    admission (entered full) 7001 (message (codes "go:")) (a_text ∷ []) ≡ Err NotUnderstood
no_method_goes_before_the_rest = refl

-- values that do not fit, here none, are refused as such at a full stack too
a_type_fault_goes_before_a_full_stack :
    admission (entered full) 7001 (message (codes "add:")) [] ≡ Err TypeFault
a_type_fault_goes_before_a_full_stack = refl

-- of a call that is refused its sender is told, and nothing is shown
a_refused_call_is_answered : (e : Exc) (n : Node)
    → (refusing e (reasons.Call 7001 3) n).shown ≡ []
a_refused_call_is_answered e n = refl

-- of a oneway message that is refused nobody is told, and it is shown
a_refused_oneway_message_is_shown : (e : Exc) (n : Node)
    → refusing e (reasons.Oneway 7001) n ≡ showing (shows.Raise e) n
a_refused_oneway_message_is_shown e n = refl

-- an answer reaches the invocation that waits for it, and those above and below wait on
an_answer_reaches_the_invocation_that_waits_for_it : (a : Answer)
    → stack_answered (method_call 7002 2) (λ what. a) (waiting 3 ∷ waiting 2 ∷ waiting 1 ∷ [])
    ≡ waiting 3 ∷ record (waiting 2) { state = Answered a } ∷ waiting 1 ∷ []
an_answer_reaches_the_invocation_that_waits_for_it a = refl

-- an answer to a call that no invocation waits for changes none
an_answer_of_another_number_changes_no_invocation : (a : Answer)
    → stack_answered (method_call 7002 4) (λ what. a) (waiting 3 ∷ waiting 2 ∷ [])
    ≡ waiting 3 ∷ waiting 2 ∷ []
an_answer_of_another_number_changes_no_invocation a = refl

-- two values are no answer to a question for a root, whatever they are
two_values_are_no_root : (v w : Value)
    → values_answer counter_classes (v ∷ w ∷ []) waiteds.Root ≡ Raised TypeFault
two_values_are_no_root v w = refl

-- an invocation that a peer called, at a node whose ends are closed
abbrev called : RunContext
called = record { context = entered (closed counter); top = going five; below = [] }

-- an answer to a caller behind a closed end is neither sent nor shown
an_answer_over_a_closed_end_goes_to_nobody : (a : Answer)
    → delivery called a (reasons.Call 7001 3) ≡ only (closed counter)
an_answer_over_a_closed_end_goes_to_nobody a = refl

-- an exception that no handler catches ends a started invocation, and is shown
an_exception_ends_an_invocation : (e : Exc)
    → failing called e None ≡ showing (shows.Raise e) (closed counter)
an_exception_ends_an_invocation e = refl

-- an item goes behind those that its queue has
an_item_goes_behind_those_of_its_queue : (a b : Item)
    → with_sent (record { to = 7002; item = b } ∷ []) (record { to = 7002; items = a ∷ [] })
    ≡ record { to = 7002; items = a ∷ b ∷ [] }
an_item_goes_behind_those_of_its_queue a b = refl

-- and other queues stay as they were
an_item_goes_to_no_other_queue : (a b : Item)
    → with_sent (record { to = 7003; item = b } ∷ []) (record { to = 7002; items = a ∷ [] })
    ≡ record { to = 7002; items = a ∷ [] }
an_item_goes_to_no_other_queue a b = refl

-- an item to a port that is no peer goes nowhere
an_item_to_a_port_that_is_no_peer_goes_nowhere : (item : Item)
    → commit 7001 (queueing 7003 item client) at_first ≡ at_first
an_item_to_a_port_that_is_no_peer_goes_nowhere item = refl
