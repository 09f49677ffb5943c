-- What holds of the parts of a world that are read.
use Rattle.std.specs.{Prelude.{◌≡◌, ℕ, ◌==◌, IsTrue, List, Some, map}, List.{All, IsDistinct}}
use Rattle.toml.specs.Data.{Members}
use Rattle.do_behave.specs.Programs.{IsMadeFor}
use Rattle.do_class.specs.Class.{Class}
use Rattle.do_class_kinds.specs.Kinds.{AreKindsOf}
use Rattle.do_carried.specs.Ranged.{CodesAreRanged, RulesAreRanged}
use Rattle.do_machine.specs.{World.{IsSeat, IsWorld}, declared.state.Seat.Seat}
use Rattle.do_world.specs.{Faults.is_free, Worlds.seat_of, declared.world.World.World}

-- the node of a table, which can stand behind others
pub record IsNextSeat (classes : List Class) (seats : List Seat) (t : Members)
    (s : Seat) : Type 0 where
  pub said : seat_of classes t ≡ Some s
  pub free : IsTrue (is_free seats s.node)
  pub seated : IsSeat classes s

-- nodes of distinct ports, each of which can stand in a world of these classes
pub record AreSeats (classes : List Class) (seats : List Seat) : Type 0 where
  pub distinct : IsDistinct (λ (p q : ℕ). p == q) (map (λ (s : Seat). s.node) seats)
  pub seated : All (IsSeat classes) seats

-- A machine can open with this world; its program is made for its table, and each class has a kind
-- and rules. The numbers of its codes have 64 bits, and its texts are of bytes
pub record IsSound (world : World) : Type 0 where
  pub opens : IsWorld world.table world.nodes
  pub made : IsMadeFor world.program world.table
  pub kinds : AreKindsOf world.table world.kinds world.rules
  pub codes : CodesAreRanged world.program
  pub denials : RulesAreRanged world.rules
