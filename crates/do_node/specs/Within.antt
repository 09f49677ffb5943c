-- That what runs of a schedule stays within what frames can spell and nodes can count.
use Rattle.do_given.specs.declared.status.Status.TheVariants as answer
use Rattle.std.specs.{Prelude.{List, Option, length, ◌++◌, ◌<◌, ◌^◌, ◌≡◌, ◌⊎◌, ℕ}, List.flat_map}
use Rattle.do_agreement.specs.Along.{EventsSendSpelled, LinesSendSpelled}
use Rattle.do_base.specs.declared.{events.event.Event.Event, outside.shelf.NamedFile.NamedFile}
use Rattle.do_cli.specs.declared.command.Command.{Command, TheVariants.{Leaks, Make, Replay, Weave}}
use Rattle.do_given.specs.declared.{scheduled.Scheduled.Scheduled, status.Status.Status}
use Rattle.do_given.specs.{Parts.behaviour_of, Reading.{GivesScheduled, GivesWorld}}
use Rattle.do_limits.specs.SendableActs.{AllStartSendable}
use Rattle.do_machine.specs.check.Blocks.{events_of}
use Rattle.do_native.specs.Acts.{native_act}
use Rattle.do_network.specs.Net.{net_opening}
use Rattle.do_sched.specs.declared.line.Line.{Line}
use Rattle.do_within.specs.{Numbers.AllNumbersSmall, Received.net_reached}
use Rattle.do_world.specs.{Mesh.mesh_world, declared.world.World.World}

-- Over the network of a world each frame that is sent in these lines has a spelling that its peer
-- reads. After any of their events the numbers of each node's next call, object and lend are small
pub record StaysWithin (w : World) (lines : List Line) : Type 0 where
  pub spelled : LinesSendSpelled w.table (native_act (behaviour_of w))
      (net_opening w.table w.nodes) lines
  pub small : (before after : List Event) → before ++ after ≡ flat_map events_of lines →
      AllNumbersSmall (net_reached w.table (native_act (behaviour_of w)) w.nodes before)

-- a word gives a world, and another a schedule that stays within this
pub record GivesWithin (told : Option (List NamedFile)) (word name : List ℕ) : Type 0 where
  pub given : Scheduled
  pub gives : GivesScheduled told word name given
  pub within : StaysWithin given.world given.lines

-- Over the network of a world each frame has a spelling that its peer reads, and numbers are small,
-- in any fewer than 2^46 events whose starts give values that a message can carry
pub record IsBounded (w : World) : Type 0 where
  pub spelled : (events : List Event) → AllStartSendable events → length events < 2 ^ 46 →
      EventsSendSpelled w.table (native_act (behaviour_of w)) (net_opening w.table w.nodes) events
  pub small : (events : List Event) → AllStartSendable events → length events < 2 ^ 46 →
      AllNumbersSmall (net_reached w.table (native_act (behaviour_of w)) w.nodes events)

-- a word gives such a world
pub record GivesBounded (told : Option (List NamedFile)) (word : List ℕ) : Type 0 where
  pub world : World
  pub gives : GivesWorld told word world
  pub bounded : IsBounded world

-- Something holds where an answer shows that a schedule ran: all was written, the output failed, or
-- memory ran out, unless nothing was done
abbrev pub WhereRan : (holds nothing : Type 0) → Status → Type 0
WhereRan holds nothing answer.Ok = holds
WhereRan holds nothing answer.WriteFault = holds
WhereRan holds nothing answer.Memory = nothing ⊎ holds
WhereRan holds nothing status = Unit {0}

-- a schedule that a command ran stays within this, and so does all that is done over a world for
-- records or for a number, by what the sink held and holds
abbrev pub RanWithin : Option (List NamedFile) → Option (List ℕ) → Option (List ℕ) → Status
    → Command → Type 0
RanWithin told old new status (Replay world schedule) =
    WhereRan (GivesWithin told world schedule) (new ≡ old) status
RanWithin told old new status (Leaks world schedule) =
    WhereRan (GivesWithin told world schedule) (new ≡ old) status
RanWithin told old new status (Weave world names) =
    WhereRan (GivesBounded told world) (new ≡ old) status
RanWithin told old new status (Make number count) =
    WhereRan (IsBounded mesh_world) (new ≡ old) status
RanWithin told old new status command = Unit {0}
