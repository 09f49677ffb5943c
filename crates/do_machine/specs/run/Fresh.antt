-- An invocation as it begins, and objects as they are made.
use Rattle.std.specs.Prelude.{Bool, List, None, Option, Some, [], length, map, nat_le, replicate}
use Rattle.std.specs.Prelude.{suc, ℕ, ◌++◌, ◌+◌, ◌-◌, ◌∷◌}
use Rattle.do_base.specs.{names.Names.ObjectName, values.Kinds.object}
use Rattle.do_packet.specs.declared.receipt.Made.{Made}
use Rattle.do_base.specs.declared.values.value.Value.{Value, TheVariants.Nil}
use Rattle.do_class.specs.{Class.Class, Table.slots_of, declared.ids.ClassId.ClassId}
use Rattle.do_class.specs.declared.ids.{MethodId.MethodId, Slot.Slot}
use Rattle.do_behave.specs.declared.invocation.{Invocation.Invocation, Reason.Reason}
use Rattle.do_behave.specs.declared.invocation.InvState.TheVariants.{Running}
use Rattle.do_machine.specs.declared.node.{Node.Node, Stored.Stored}

-- an invocation of an own object, with these values in its first locals and nil in the others
abbrev pub fresh : ObjectName → MethodId → Reason → List Value → Invocation
fresh object method reason values = record {
  object = object;
  method = method;
  pc = 0;
  locals = values ++ replicate (16 - length values) Nil;
  handler = None;
  reason = reason;
  into = 0;
  outs = [];
  state = Running;
}

-- the node has as many invocations as it may have
abbrev pub is_full : Node → Bool
is_full n = nat_le 256 (length n.stack)

-- the node with another stack
abbrev pub with_stack : List Invocation → Node → Node
with_stack stack n = record n { stack = stack }

-- the node with an invocation on top
abbrev pub pushed : Invocation → Node → Node
pushed i n = with_stack (i ∷ n.stack) n

-- nil for each slot of a class; a class that is not there has none
abbrev nils : Option (List Slot) → List Value
nils None = []
nils (Some slots) = map (λ s. Nil) slots

-- an object of a class as it is made, with nil slots
abbrev pub blank : List Class → ClassId → Made
blank table class = record { class = class; slots = nils (slots_of table class) }

-- objects under the serials from one on
abbrev pub with_serials : ℕ → List Made → List Stored
with_serials serial [] = []
with_serials serial (m ∷ ms) =
    record { serial = serial; class = m.class; slots = m.slots } ∷ with_serials (suc serial) ms

-- the node with new objects, which take the next serials
abbrev pub with_objects : List Made → Node → Node
with_objects new n = record n {
  heap = n.heap ++ with_serials n.next_serial new;
  next_serial = n.next_serial + length new;
}
