-- What is known of the objects that `leaks` tells.
use Rattle.do_sched.specs.declared.line.Line.TheVariants as lines
use Rattle.std.specs.{Prelude.{◌≡◌, ℕ, List, Option, true}, List.AllByRecursion}
use Rattle.do_base.specs.declared.outside.shelf.NamedFile.{NamedFile}
use Rattle.do_at_hand.specs.AtHand.{NamedAreStored}
use Rattle.do_cycles.specs.{Settled.IsSettled, Told.TellsEachLost}
use Rattle.do_given.specs.{Parts.behaviour_of, Reading.GivesScheduled}
use Rattle.do_given.specs.declared.scheduled.Scheduled.{Scheduled}
use Rattle.do_lost.specs.{Named.quiet, Text.lost_text}
use Rattle.do_machine.specs.{World.opening, declared.state.State.State}
use Rattle.do_native.specs.Acts.{native_act}
use Rattle.do_replay.specs.Replayed.{state_after}
use Rattle.do_sched.specs.declared.line.Line.{Line}
use Rattle.do_world.specs.declared.world.World.{World}

-- the line closes nothing and loses nothing
abbrev pub BreaksNothing : Line → Type 0
BreaksNothing (lines.Close port peer) = ⊥
BreaksNothing (lines.Lose from to after) = ⊥
BreaksNothing _ = Unit {0}

-- the state of the one machine after these lines over a world
unfoldable pub world_after : World → List Line → State
world_after w ls = state_after w.table (native_act (behaviour_of w)) (opening w.table w.nodes) ls

-- The text is what nothing can reach after a schedule over a world, and none of it is left out.
-- Where the schedule breaks nothing and nothing is on its way after it, the search for it started
-- at roots and invocations alone. Where it breaks nothing, each object that a slot or an invocation
-- names is stored.
pub record TellsLost (told : Option (List NamedFile)) (word name text : List ℕ) : Type 0 where
  pub given : Scheduled
  pub gives : GivesScheduled told word name given
  pub is : text ≡ lost_text given.world.table (world_after given.world given.lines)
  pub each : TellsEachLost (world_after given.world given.lines)
  pub settled : AllByRecursion BreaksNothing given.lines →
      quiet (world_after given.world given.lines) ≡ true →
      IsSettled (world_after given.world given.lines)
  pub named : AllByRecursion BreaksNothing given.lines →
      NamedAreStored (world_after given.world given.lines)
