-- States in which nothing is lent, asked for or on its way.
use Rattle.std.specs.{Prelude.{List, ◌++◌, ◌≡◌}, List.flat_map}
use Rattle.do_base.specs.names.Names.{ObjectName}
use Rattle.do_facts.specs.Made.{is_stored}
use Rattle.do_lost.specs.Named.{named, root_names}
use Rattle.do_machine.specs.declared.state.{State.State, Station.Station}
use Rattle.do_machine.specs.held.Refers.{stack_objects}
use Rattle.do_quiet.specs.{Keeping.AreKeptByAll, Quiet.NothingLent}

-- the objects that the root and the invocations of a node name
abbrev pub rooted_at : Station → List ObjectName
rooted_at s = root_names s.node ++ stack_objects s.node.stack

-- the objects that roots and invocations name
abbrev pub rooted : State → List ObjectName
rooted S = flat_map rooted_at S.stations

-- no node lends or asks for anything, a search starts at roots and invocations alone, and the
-- stored objects are those that all nodes together keep
pub record IsSettled (S : State) : Type 0 where
  pub lends : NothingLent S
  pub starts : named S ≡ rooted S
  pub stored : AreKeptByAll S (is_stored S)
