-- How an invocation and its node change.
use Rattle.std.specs.Prelude.{List, Option, slice_set, suc, ℕ, ◌==◌, ◌∷◌}
use Rattle.do_behave.specs.InPlace.{written}
use Rattle.do_base.specs.declared.values.value.Value.{Value}
use Rattle.do_behave.specs.declared.{act.Write.Write, invocation.{Answer.Answer, Handler.Handler}}
use Rattle.do_behave.specs.declared.invocation.{Invocation.Invocation, InvState.InvState}
use Rattle.do_behave.specs.declared.invocation.InvState.TheVariants.{Answered, Running}
use Rattle.do_machine.specs.{declared.node.{Node.Node, Stored.Stored}, Lists.change_first}

-- the invocation goes on at a place of its method
abbrev pub goes_to : ℕ → Invocation → Invocation
goes_to pc i = record i { pc = pc }

-- the invocation goes on with a value in a local
abbrev pub goes_on : ℕ → Value → ℕ → Invocation → Invocation
goes_on into value pc i =
    record i { pc = pc; locals = slice_set i.locals into value; state = Running }

-- values go to locals in order, so that a later one wins
abbrev pub with_outs : List ℕ → List Value → List Value → List Value
with_outs (k ∷ ks) (v ∷ vs) locals = with_outs ks vs (slice_set locals k v)
with_outs _ _ locals = locals

-- the invocation uses its answer: the result first, and then what came out
abbrev pub uses : Value → List Value → Invocation → Invocation
uses result outs i =
    record i { locals = with_outs i.outs outs (slice_set i.locals i.into result); state = Running }

-- the invocation goes on with other locals and another handler
abbrev pub steps_to : ℕ → List Value → Option Handler → Invocation → Invocation
steps_to pc locals handler i = record i { pc = pc; locals = locals; handler = handler }

-- the invocation stands in a state until something comes
abbrev pub stands : ℕ → ℕ → List ℕ → InvState → Invocation → Invocation
stands pc into outs state i = record i { pc = pc; into = into; outs = outs; state = state }

-- an answer came
abbrev pub answered : Answer → Invocation → Invocation
answered a i = record i { state = Answered a }

-- an object with slots written
abbrev pub with_writes : List Write → Stored → Stored
with_writes ws x = record x { slots = written x.slots ws }

-- the node with slots of an object written
abbrev pub with_slots : ℕ → List Write → Node → Node
with_slots serial ws n = record n {
  heap = change_first (λ x. x.serial == serial) (with_writes ws) n.heap;
}

-- the node's next call number is used up
abbrev pub uses_number : Node → Node
uses_number n = record n { next_call = suc n.next_call }
