-- That what a command writes of a network is what one local machine comes to.
use Rattle.std.specs.Prelude.{◌≡◌, ℕ, ◌⊎◌, List, Option, map}
use Rattle.do_base.specs.declared.outside.shelf.NamedFile.{NamedFile}
use Rattle.do_cli.specs.declared.command.Command.{Command, TheVariants.{Replay, Make}}
use Rattle.do_generate.specs.Generated.{generated}
use Rattle.do_given.specs.{Parts.behaviour_of, Reading.GivesScheduled}
use Rattle.do_given.specs.declared.scheduled.Scheduled.{Scheduled}
use Rattle.do_machine.specs.{World.opening, check.Blocks.blocks}
use Rattle.do_make.specs.{Summary.summary_of, Text.summary_text}
use Rattle.do_native.specs.Acts.{native_act}
use Rattle.do_sched.specs.declared.line.Line.{Line}
use Rattle.do_trace.specs.Block.{Block}
use Rattle.do_world.specs.{Mesh.mesh_world, declared.world.World.World}
use Rattle.do_network.specs.{Net.net_opening, Wired.{WiredBlock, net_blocks}}
use Rattle.do_agreement.specs.WithoutWires.{without_wires}
use Rattle.do_node.specs.{Added.{AddsAll, AddsFirst}, Replaying.world_transcript}

-- The text is the transcript of a schedule over one local machine, once the whole lines that begin
-- with `wire ` are dropped.
pub record IsLocalReplay (told : Option (List NamedFile)) (word name text : List ℕ) : Type 0 where
  pub given : Scheduled
  pub gives : GivesScheduled told word name given
  pub dropped : without_wires text ≡ world_transcript given.world given.lines

-- what each of these lines comes to in the one machine of a world
abbrev pub local_blocks : World → List Line → List (Block Line)
local_blocks w lines =
    blocks w.table (native_act (behaviour_of w)) (opening w.table w.nodes) lines

-- these lines come to the same over the network of a world
abbrev pub ComesAsOne : World → List Line → Type 0
ComesAsOne w lines =
    map (λ b. b.block) (net_blocks w.table (native_act (behaviour_of w))
    (net_opening w.table w.nodes) lines)
    ≡ local_blocks w lines

-- the text is the summary of what the lines that a number generates come to in one local machine
-- of the mesh, with what was sent in each
pub record IsLocalSummary (number count : ℕ) (text : List ℕ) : Type 0 where
  pub wired : List WiredBlock
  pub same : map (λ b. b.block) wired ≡ local_blocks mesh_world (generated count number)
  pub is : text ≡ summary_text (summary_of wired)

-- a text that is so was added where all was done, and else its first bytes or nothing
pub record Adds (Is : List ℕ → Type 0) (old new : Option (List ℕ)) (done : Type 0) : Type 0 where
  pub whole : done → AddsAll Is old new
  pub first : (new ≡ old) ⊎ AddsFirst Is old new

-- what a command writes of a network, where all was done and else, is what one machine comes to
abbrev pub AddsAsOne : Option (List NamedFile) → Option (List ℕ) → Option (List ℕ) → Type 0
    → Command → Type 0
AddsAsOne told old new done (Replay world schedule) =
    Adds (IsLocalReplay told world schedule) old new done
AddsAsOne told old new done (Make number count) =
    Adds (IsLocalSummary number count) old new done
AddsAsOne told old new done command = Unit {0}
