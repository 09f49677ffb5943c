-- Which objects values, invocations and nodes name.
use Rattle.std.specs.{Prelude.{List, [], map, ◌++◌, ◌∷◌}, List.flat_map}
use Rattle.do_base.specs.{names.Names.ObjectName, values.Values.objects_of}
use Rattle.do_base.specs.declared.values.value.Value.{Value}
use Rattle.do_behave.specs.declared.invocation.{Answer.Answer, Invocation.Invocation}
use Rattle.do_behave.specs.declared.invocation.{InvState.InvState, Answer.TheVariants.Given}
use Rattle.do_behave.specs.declared.invocation.InvState.TheVariants.{Answered}
use Rattle.do_machine.specs.declared.node.{Node.Node, Stored.Stored}

-- the objects in values
abbrev pub objects_in : List Value → List ObjectName
objects_in vs = flat_map objects_of vs

-- the values of an answer
abbrev pub answer_values : Answer → List Value
answer_values (Given result outs) = result ∷ outs
answer_values _ = []

-- the values of an answer that was not used yet
abbrev pub state_values : InvState → List Value
state_values (Answered a) = answer_values a
state_values _ = []

-- an invocation names its own object, those in its locals and those in its answer
abbrev pub invocation_objects : Invocation → List ObjectName
invocation_objects i = i.object ∷ (objects_in i.locals ++ objects_in (state_values i.state))

-- all objects that invocations name
abbrev pub stack_objects : List Invocation → List ObjectName
stack_objects stack = flat_map invocation_objects stack

-- the objects that the slots of stored objects name
abbrev pub heap_objects : List Stored → List ObjectName
heap_objects heap = flat_map (λ x. objects_in x.slots) heap

-- all objects to which a node refers: in slots, invocations, lends and asks
abbrev pub node_objects : Node → List ObjectName
node_objects n =
    heap_objects n.heap ++ stack_objects n.stack
    ++ map (λ l. l.object) n.lent ++ map (λ w. w.object) n.asked
