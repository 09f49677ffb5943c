-- How often objects are used: once for each value that names them.
use Rattle.std.specs.Prelude.{◌≡◌, ◌<◌, ◌↔◌, ◌+◌, ℕ, Bool, true, cond, List, [], ◌∷◌, ◌++◌, map}
use Rattle.std.specs.Prelude.{sum_by}
use Rattle.do_base.specs.{names.Names.ObjectName, values.Values.objects_of}
use Rattle.do_base.specs.declared.values.value.Value.{Value, TheVariants.Obj}
use Rattle.do_behave.specs.declared.invocation.Invocation.{Invocation}
use Rattle.do_machine.specs.{declared.node.{Node.Node, Stored.Stored}, State.own, held.Kept.is_root}
use Rattle.do_machine.specs.held.{Kept.stays, Refers.{state_values, stack_objects, node_objects}}
use Rattle.do_packet.specs.Met.{has_object, same_object, met}

-- a value names an object, however often
abbrev pub names : ObjectName → Value → Bool
names o v = has_object (objects_of v) o

-- how many of these values name an object
abbrev pub uses : ObjectName → List Value → ℕ
uses o = sum_by (λ v. cond (names o v) 1 0)

-- the values of an invocation: its own object, its locals and its answer
abbrev pub invocation_values : Invocation → List Value
invocation_values i = Obj i.object ∷ (i.locals ++ state_values i.state)

-- how many values of invocations name an object
abbrev pub stack_uses : ObjectName → List Invocation → ℕ
stack_uses o = sum_by (λ i. uses o (invocation_values i))

-- an object is used by as many values as name it, so by none just where no invocation names it
abbrev pub CountsReferences : Type 0
CountsReferences = (stack : List Invocation) (o : ObjectName)
    → (0 < stack_uses o stack) ↔ (has_object (stack_objects stack) o ≡ true)

-- the objects that a value names, each once
abbrev pub named_once : Value → List ObjectName
named_once v = met [] (objects_of v)

-- how often an object stands in a list
abbrev pub times : ObjectName → List ObjectName → ℕ
times o = sum_by (λ x. cond (same_object o x) 1 0)

-- to count each object that a value names, once, is to count the value's uses
abbrev pub CountsOnce : Type 0
CountsOnce = (v : Value) (o : ObjectName) → times o (named_once v) ≡ uses o (v ∷ [])

-- ---- all of a node

-- how many values in slots of stored objects name an object
abbrev pub heap_uses : ObjectName → List Stored → ℕ
heap_uses o = sum_by (λ x. uses o x.slots)

-- how often a node uses an object: each value of a slot or an invocation that names it counts once,
-- and so does each lend and each ask of it
abbrev pub node_uses : ObjectName → Node → ℕ
node_uses o n =
    heap_uses o n.heap + stack_uses o n.stack
    + times o (map (λ l. l.object) n.lent) + times o (map (λ w. w.object) n.asked)

-- a node uses an object above 0 times just where it refers to it
abbrev pub CountsNode : Type 0
CountsNode = (n : Node) (o : ObjectName)
    → (0 < node_uses o n) ↔ (has_object (node_objects n) o ≡ true)

-- how many holders an own object has beside slots: the root counts once, and so does each value of
-- an invocation that names the object and each peer that has an entry of it
abbrev pub holders : (ℕ → ℕ → Bool) → Node → ℕ → ℕ
holders entry n serial =
    cond (is_root n serial) 1 0 + stack_uses (own n serial) n.stack
    + sum_by (λ peer. cond (entry peer serial) 1 0) n.open_to

-- an own object has a holder or is named in a slot just where it stays
abbrev pub CountsHolders : Type 0
CountsHolders = (entry : ℕ → ℕ → Bool) (n : Node) (heap : List Stored) (x : Stored)
    → (0 < holders entry n x.serial + heap_uses (own n x.serial) heap)
    ↔ (stays entry n heap x ≡ true)
