-- Worlds, and how a machine opens.
use Rattle.std.specs.Prelude.{All, Bool, List, Some, [], filter, length, map, nat_lt, not, ℕ, ◌<◌}
use Rattle.std.specs.{Prelude.{◌==◌, ◌∷◌, ◌≤◌}, List.IsDistinct}
use Rattle.do_sched.specs.Good.{IsPort}
use Rattle.do_sig.specs.MethodTypes.{IsMethodType}
use Rattle.do_class.specs.{Class.Class, Table.IsTable}
use Rattle.do_machine.specs.declared.{node.Node.Node, state.{Station.Station, State.State}}
use Rattle.do_machine.specs.{declared.state.Seat.Seat, Lists.all_inserted, State.ports}
use Rattle.do_machine.specs.run.Fresh.{blank, with_serials}

-- the signatures of a class keep to what every signature keeps to
abbrev pub HasSignatures : Class → Type 0
HasSignatures c = All (λ m. IsMethodType m.signature) c.methods

-- a node of a world has a port, and a class of the table for its root
pub record IsSeat (table : List Class) (s : Seat) : Type 0 where
  pub port : IsPort s.node
  pub root : s.root.0 < length table

-- a world: a class table within the limits, and 1 to 64 nodes of distinct ports, in any order
pub record IsWorld (table : List Class) (seats : List Seat) : Type 0 where
  pub classes : IsTable table
  pub signatures : All HasSignatures table
  pub some : 1 ≤ length seats
  pub few : length seats ≤ 64
  pub distinct : IsDistinct (λ (p q : ℕ). p == q) (map (λ (s : Seat). s.node) seats)
  pub seated : All (IsSeat table) seats

-- one seat stands before another
abbrev pub is_before : Seat → Seat → Bool
is_before s t = nat_lt s.node t.node

-- the seats by rising port
abbrev pub by_port : List Seat → List Seat
by_port seats = all_inserted is_before seats

-- the ports other than one
abbrev pub others : List ℕ → ℕ → List ℕ
others ports port = filter (λ p. not (p == port)) ports

-- a node as it opens: its root is its one object, with nil slots, and all ends are open
abbrev pub opening_node : List Class → List ℕ → Seat → Node
opening_node table ports s = record {
  port = s.node;
  heap = with_serials 1 (blank table s.root ∷ []);
  root = Some 1;
  stack = [];
  next_serial = 2;
  next_call = 1;
  next_token = 1;
  open_to = others ports s.node;
  held = [];
  lent = [];
  asked = [];
  late = [];
}

-- a station as it opens: its queues are empty
abbrev pub opening_station : List Class → List ℕ → Seat → Station
opening_station table ports s = record {
  port = s.node;
  node = opening_node table ports s;
  queues = map (λ p. record { to = p; items = [] }) (others ports s.node);
  classes = s.root ∷ [];
}

-- the state that opens with these nodes, by rising port
abbrev pub opening_by : List Class → List Seat → State
opening_by table seats =
    record { stations = map (opening_station table (map (λ s. s.node) seats)) seats }

-- the state of a world at its opening
abbrev pub opening : List Class → List Seat → State
opening table seats = opening_by table (by_port seats)
