-- An upgraded schedule is replayed with the transcripts that the rules of the first version give.
use Rattle.std.proofs.Common.{◌≡◌, ℕ, List, Option, ◌++◌, drop, ap, sym, ◌∙◌}
use Rattle.do_base.specs.declared.outside.shelf.NamedFile.{NamedFile}
use Rattle.do_sched.specs.{Good.IsLineOf, Version.header, declared.line.Line.Line}
use Rattle.do_sched.specs.declared.version.Version.TheVariants.{First, Second}
use Rattle.do_sched.proofs.Upgraded.{upgrades}
use Rattle.std.specs.List.{AllByRecursion}
use Rattle.do_facts.proofs.machine.first.Lines.{same_blocks}
use Rattle.do_native.specs.Acts.{native_act}
use Rattle.do_world.specs.declared.world.World.{World}
use Rattle.do_lines.specs.Transcript.{transcript}
use Rattle.do_transcript.specs.Transcript.{transcript_from}
use Rattle.do_given.specs.{Reading.{IsUpgrade, IsUpgraded}, Parts.behaviour_of}
use Rattle.do_node.specs.Replaying.{world_transcript}
use Rattle.do_node.specs.Upgrading.{IsReplayedAlike, ReplaysAlike, first_transcript}

-- over the lines of the first version a world has the transcript that the rules of it give
same_transcript : (lines : List Line) → AllByRecursion (IsLineOf First) lines → (w : World) →
    world_transcript w lines ≡ first_transcript w lines
unfolding world_transcript transcript_from first_transcript
same_transcript lines good w =
    ap (transcript w.table)
    (same_blocks w.table (native_act (behaviour_of w)) w.nodes lines good)

-- a text that is upgraded is replayed alike
replays_alike : (bytes text : List ℕ) → IsUpgraded bytes text → ReplaysAlike bytes text
replays_alike bytes text u =
    let behind = ap (λ (w : List ℕ). header Second ++ drop 10 w) u.first.spelled in
    let both = upgrades bytes text u.lines u.first (u.spelled ∙ sym behind) in
    record {
      lines = both.lines;
      first = both.first;
      second = both.second;
      same = same_transcript both.lines both.first.good;
    }

-- and so is the one of a file
pub replayed_alike : (told : Option (List NamedFile)) (name text : List ℕ) →
    IsUpgrade told name text → IsReplayedAlike told name text
replayed_alike told name text h = record {
  bytes = h.bytes;
  file = h.file;
  is_read = replays_alike h.bytes text h.is_read;
}
