-- Objects that may name each other: made blank at first, and then filled.
use Rattle.std.specs.{Prelude.{ℕ, List as Listed, [], ◌∷◌, suc, length, replicate}, List.flat_map}
use Rattle.do_base.specs.declared.values.value.Value.{Value, TheVariants.Nil}
use Rattle.do_behave.specs.declared.act.Write.{Write}
use Rattle.do_machine.specs.{declared.node.Node.Node, run.Changes.with_slots}
use Rattle.do_packet.specs.declared.receipt.Made.{Made}

-- what the slots of objects hold, one object after another
abbrev pub made_values : Listed Made → Listed Value
made_values ms = flat_map (λ m. m.slots) ms

-- an object of the same class, with nil in each slot
abbrev pub blank_of : Made → Made
blank_of m = record { class = m.class; slots = replicate (length m.slots) Nil }

-- writes of values to slots in a row, from a place on
abbrev pub writes_from : ℕ → Listed Value → Listed Write
writes_from at [] = []
writes_from at (v ∷ vs) = record { slot = at; value = v } ∷ writes_from (suc at) vs

-- the node with the slots of objects filled, whose serials are in a row
abbrev pub filled : ℕ → Listed Made → Node → Node
filled serial [] n = n
filled serial (m ∷ ms) n =
    filled (suc serial) ms (with_slots serial (writes_from 0 m.slots) n)
