-- What a search for leaks tells of a state.
use Rattle.std.specs.Prelude.{All, List, map, true, ◌≡◌}
use Rattle.do_base.specs.names.Names.{ObjectName}
use Rattle.do_leaks.specs.{Laws.lost_names, Leaks.leaks, declared.leak.Leak.Leak}
use Rattle.do_lost.specs.Named.{named}
use Rattle.do_machine.specs.{check.Snapshot.snapshot, declared.state.State.State}
use Rattle.do_packet.specs.Met.{has_object}

-- the leaks of a state
abbrev pub told : State → List Leak
told S = leaks (snapshot S) (named S)

-- the stored objects of a state that nothing can reach
abbrev pub lost : State → List ObjectName
lost S = lost_names (snapshot S) (named S)

-- each stored object that nothing can reach is told, and the object whose slot names it is another
-- of these
pub record TellsEachLost (S : State) : Type 0 where
  pub each : map (λ l. l.oid) (told S) ≡ lost S
  pub held : All (λ l. has_object (lost S) l.holder ≡ true) (told S)
