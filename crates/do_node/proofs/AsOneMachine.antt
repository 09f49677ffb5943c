-- What of a text that is so was added.
use Rattle.do_given.specs.declared.status.Status.TheVariants as answer
use Rattle.std.proofs.Common.{◌≡◌, ◌⊎◌, ℕ, List, None, Option, Some, Result, Ok, Err, ◌∙◌, inl, inr}
use Rattle.std.{proofs.Common.refl, specs.Prelude.{IfSome, IsOk, OnOk}}
use Rattle.do_base.specs.outside.Bytes.{with_more, HasWritten}
use Rattle.do_base.specs.declared.outside.shelf.NamedFile.{NamedFile}
use Rattle.do_cli.specs.declared.command.Command.{Command}
use Rattle.do_cli.specs.declared.command.Command.TheVariants.{Replay, Leaks, Weave, Upgrade, Make}
use Rattle.do_cli.specs.declared.command.Command.TheVariants.{Node, Lab, Help, Version}
use Rattle.do_generate.specs.Generated.{generated}
use Rattle.do_given.specs.{Parts.behaviour_of, Reading.{GivesScheduled, GivesWorld}}
use Rattle.do_given.specs.declared.scheduled.Scheduled.{Scheduled}
use Rattle.do_native.specs.Acts.{native_act}
use Rattle.do_transcript.specs.Transcript.{transcript_from}
use Rattle.do_world.specs.{Mesh.mesh_world, Sound.IsSound, declared.world.World.World}
use Rattle.do_plain.specs.Named.{AreNamed}
use Rattle.do_plain.proofs.{Texts.transcript_stays, Worlds.{builtin_has, text_has}}
use Rattle.do_network.specs.{Net.net_opening, Wired.net_blocks}
use Rattle.do_agreement.specs.{HasWires.HasWires, WithoutWires.without_wires}
use Rattle.do_agreement.proofs.texts.WiresDropped.{wires_fall_out}
use Rattle.do_replay.specs.Replayed.{WritesWithWires}
use Rattle.do_given.specs.declared.status.Status.{Status}
use Rattle.do_node.specs.{Answering.answer_of, Call.Obeys, Added.AddsFirst}
use Rattle.do_node.specs.OneMachine.{Adds, AddsAsOne, ComesAsOne, IsLocalReplay, IsLocalSummary}
use Rattle.do_node.specs.Replaying.{made_text, world_summary, world_transcript, world_wired}
use Rattle.do_node.{specs.Running.Counts, proofs.RefusalsTold.stops_not_ok}

-- no fault is a good result
not_ok : (status : Status) → IsOk {T = Unit} (Err status) → ⊥
not_ok status ok = cc

module _ (Is : List ℕ → Type 0) (old new : Option (List ℕ)) where
  -- a text was added, and what was found where all was done says that it is so
  pub adds_so : {A : Type 0} (text : List ℕ) (result : Result Unit Status) → (A → Is text) →
      OnOk result A → OnOk result (new ≡ with_more old text) → (new ≡ old) ⊎ AddsFirst Is old new →
      Adds Is old new (IsOk result)
  adds_so text (Ok u) so found written first = record {
    whole = λ ok. record { text = text; writes = so found; written = written };
    first = first;
  }
  adds_so text (Err status) so found written first =
      record { whole = λ ok. absurd (not_ok status ok); first = first }

-- the classes of a world that a word gives have names
given_named : (told : Option (List NamedFile)) (word : List ℕ) (world : World) →
    GivesWorld told word world → AreNamed world.table
given_named told word world (inl is) = builtin_has word world is
given_named told word world (inr says) = text_has says.1.bytes world says.1.is_read

-- no line of the one machine's transcript says what was sent
transcript_plain : (told : Option (List NamedFile)) (word name : List ℕ) (given : Scheduled) →
    IsSound given.world → GivesScheduled told word name given →
    without_wires (world_transcript given.world given.lines)
    ≡ world_transcript given.world given.lines
unfolding world_transcript transcript_from
transcript_plain told word name given sound gives =
    transcript_stays given.world.table sound.opens.classes
    (given_named told word given.world gives.gives) (native_act (behaviour_of given.world))
    given.world.nodes given.lines gives.says.is_read.good

-- a text that is the one machine's with what was sent put in
local_replay : (told : Option (List NamedFile)) (word name : List ℕ) (given : Scheduled) →
    IsSound given.world → GivesScheduled told word name given → (text : List ℕ) →
    HasWires (world_transcript given.world given.lines) text → IsLocalReplay told word name text
local_replay told word name given sound gives text so = record {
  given = given;
  gives = gives;
  dropped = wires_fall_out (world_transcript given.world given.lines) text so
      ∙ transcript_plain told word name given sound gives;
}

-- a replay added such a text, or the beginning of one
pub replay_adds : (told : Option (List NamedFile)) (word name : List ℕ) (given : Scheduled) →
    IsSound given.world → GivesScheduled told word name given → (old new : Option (List ℕ))
    (result : Result Unit Status) →
    OnOk result
    (HasWires (world_transcript given.world given.lines) (world_wired given.world given.lines)) →
    OnOk result (new ≡ with_more old (world_wired given.world given.lines)) →
    WritesWithWires old new (world_transcript given.world given.lines) →
    Adds (IsLocalReplay told word name) old new (IsOk result)
replay_adds told word name given sound gives old new result wires written first =
    adds_so (IsLocalReplay told word name) old new (world_wired given.world given.lines) result
    (local_replay told word name given sound gives (world_wired given.world given.lines)) wires
    written (inr (record {
      text = first.text;
      writes = local_replay told word name given sound gives first.text first.wires;
      written = first.written;
    }))

-- where generated lines come to what they come to in one machine, their summary is that of the
-- machine
local_summary : (number count : ℕ) → ComesAsOne mesh_world (generated count number) →
    IsLocalSummary number count (made_text number count)
unfolding world_summary
local_summary number count same = record {
  wired = net_blocks mesh_world.table (native_act (behaviour_of mesh_world))
      (net_opening mesh_world.table mesh_world.nodes) (generated count number);
  same = same;
  is = refl;
}

-- and such a summary was added
pub summary_adds : (number count : ℕ) (old new : Option (List ℕ)) (result : Result Unit Status) →
    OnOk result (ComesAsOne mesh_world (generated count number)) →
    OnOk result (new ≡ with_more old (made_text number count)) →
    HasWritten old new (made_text number count) →
    (new ≡ old) ⊎ ComesAsOne mesh_world (generated count number) →
    Adds (IsLocalSummary number count) old new (IsOk result)
summary_adds number count old new result same written prefix first =
    adds_so (IsLocalSummary number count) old new (made_text number count) result
    (local_summary number count) same written (go first)
  where
    go : (new ≡ old) ⊎ ComesAsOne mesh_world (generated count number) →
        (new ≡ old) ⊎ AddsFirst (IsLocalSummary number count) old new
    go (inl none) = inl none
    go (inr so) = inr (record {
      text = made_text number count;
      writes = local_summary number count so;
      written = prefix;
    })

-- nothing was added
pub adds_nothing : (Is : List ℕ → Type 0) (old : Option (List ℕ)) (status : Status) →
    Adds Is old old (IsOk {T = Unit} (Err status))
adds_nothing Is old status =
    record { whole = λ ok. absurd (not_ok status ok); first = inl refl }

-- a good answer says that all was done
pub answered_so : (told : Option (List NamedFile)) (command : Command) (reads puts : Counts)
    (old new : Option (List ℕ)) (result : Result Unit Status) (Is : List ℕ → Type 0) →
    Obeys told command reads old new puts result → Adds Is old new (IsOk result) →
    Adds Is old new (answer_of result ≡ answer.Ok)
answered_so told command reads puts old new (Ok u) Is obeys adds =
    record { whole = λ good. adds.whole refl; first = adds.first }
answered_so told command reads puts old new (Err status) Is obeys adds = record {
  whole = λ good. absurd (stops_not_ok _ _ told command status obeys.stopped good);
  first = adds.first;
}

-- whatever a command is, nothing was added where it was not answered well
pub never_added : (told : Option (List NamedFile)) (old : Option (List ℕ)) (status : Status) →
    (status ≡ answer.Ok → ⊥) → (command : Command) →
    AddsAsOne told old old (status ≡ answer.Ok) command
never_added told old status never (Replay world schedule) =
    record { whole = λ good. absurd (never good); first = inl refl }
never_added told old status never (Make number count) =
    record { whole = λ good. absurd (never good); first = inl refl }
never_added told old status never (Leaks world schedule) = tt
never_added told old status never (Weave world files) = tt
never_added told old status never (Upgrade schedule) = tt
never_added told old status never (Node port world starts turns) = tt
never_added told old status never (Lab plan) = tt
never_added told old status never Help = tt
never_added told old status never Version = tt

-- so it is where memory ran out before the command was known
pub memory_adds : (told : Option (List NamedFile)) (old : Option (List ℕ))
    (command : Option Command) →
    IfSome command (AddsAsOne told old old (answer.Memory ≡ answer.Ok))
memory_adds told old None = tt
memory_adds told old (Some command) =
    never_added told old answer.Memory (λ good. absurd (no good)) command
  where
    no : answer.Memory ≡ answer.Ok → ⊥
    no e = cc
