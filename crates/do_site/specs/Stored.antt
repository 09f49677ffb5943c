-- Which own objects values may name.
use Rattle.std.specs.Prelude.{Bool, List, [], is_some, nat_le, nat_lt, true, ℕ, ◌&&◌, ◌+◌, ◌<◌}
use Rattle.std.specs.Prelude.{◌||◌, ◌≡◌, ◌∷◌}
use Rattle.do_base.specs.{names.Names.ObjectName, declared.values.value.Value.Value}
use Rattle.do_behave.specs.declared.invocation.Invocation.{Invocation}
use Rattle.do_machine.specs.{declared.node.Node.Node, Objects.object_at, State.stored}
use Rattle.do_machine.specs.held.Refers.{state_values}
use Rattle.do_part.specs.Names.{sizes_of, values_of}

-- the object of a serial is stored, or it is one of so many that get the next serials
abbrev pub is_there : Node → ℕ → ℕ → Bool
is_there n more serial =
    is_some (stored serial n.heap)
    || (nat_le n.next_serial serial && nat_lt serial (n.next_serial + more))

-- each own object that is named is there
abbrev pub AreThere : Node → ℕ → (ObjectName → ℕ) → Type 0
AreThere n more names =
    (serial : ℕ) → 0 < names (object_at n.port serial) → is_there n more serial ≡ true

-- so many names are named, and each own object among them is there
pub record Tallies (n : Node) (more : ℕ) (names : ObjectName → ℕ) (size count : ℕ)
    : Type 0 where
  pub counted : count ≡ size
  pub there : AreThere n more names

-- so many names stand in two lists of values, and each own object among them is there
pub record TalliesBoth (n : Node) (more : ℕ) (vs ws : List Value) (count : ℕ)
    : Type 0 where
  pub counted : count ≡ sizes_of vs + sizes_of ws
  pub first : AreThere n more (values_of vs)
  pub second : AreThere n more (values_of ws)

-- the values of the answer that the top invocation got
abbrev pub top_answered : List Invocation → List Value
top_answered [] = []
top_answered (top ∷ below) = state_values top.state
