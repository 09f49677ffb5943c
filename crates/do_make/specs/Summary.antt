-- What lines that were done over a network come to, in numbers.
use Rattle.do_base.specs.declared.events.shown.Shown.TheVariants as shown
use Rattle.std.specs.Prelude.{Bool, List, None, Option, Some, [], false, if◌then◌else◌, length}
use Rattle.std.specs.{Prelude.{sum_by, true, ℕ, ◌+◌, ◌∷◌}, List.count_by}
use Rattle.do_base.specs.declared.events.shown.Shown.{Shown}
use Rattle.do_network.specs.Wired.{WiredBlock}
use Rattle.do_trace.specs.declared.outcome.{NodeLine.NodeLine, Snapshot.Snapshot}
use Rattle.do_make.specs.declared.counts.Summary.{Summary}

-- a value is said
abbrev pub is_say : Shown → Bool
is_say (shown.Say v) = true
is_say line = false

-- an object is freed
abbrev pub is_free : Shown → Bool
is_free (shown.Free o) = true
is_free line = false

-- how many objects a check lists, or else so many
abbrev pub objects_listed : ℕ → Option Snapshot → ℕ
objects_listed n None = n
objects_listed n (Some listed) = sum_by (λ (x : NodeLine). length x.objects) listed.nodes

-- how many entries a check lists, or else so many
abbrev pub entries_listed : ℕ → Option Snapshot → ℕ
entries_listed n None = n
entries_listed n (Some listed) = sum_by (λ (x : NodeLine). length x.entries) listed.nodes

-- the one, or where there is none the other
abbrev pub or_else : Option Snapshot → Option Snapshot → Option Snapshot
or_else None other = other
or_else (Some listed) other = Some listed

-- what the last check of these lines lists
abbrev pub last_listed : List WiredBlock → Option Snapshot
last_listed [] = None
last_listed (b ∷ bs) = or_else (last_listed bs) b.block.listed

-- the bytes of all that was sent in a line
abbrev pub bytes_sent : WiredBlock → ℕ
bytes_sent b = sum_by (λ w. length w.bytes) b.wires

-- the summary of these lines
abbrev pub summary_of : List WiredBlock → Summary
summary_of bs = record {
  lines = length bs;
  skips = sum_by (λ (b : WiredBlock). if b.block.outcome.enabled then 0 else 1) bs;
  says = sum_by (λ (b : WiredBlock). count_by is_say b.block.outcome.shown) bs;
  frees = sum_by (λ (b : WiredBlock). count_by is_free b.block.outcome.shown) bs;
  objects = objects_listed 0 (last_listed bs);
  entries = entries_listed 0 (last_listed bs);
  frames = sum_by (λ (b : WiredBlock). length b.wires) bs;
  bytes = sum_by bytes_sent bs;
}

-- the summary of no lines
abbrev pub nothing : Summary
nothing = record {
  lines = 0;
  skips = 0;
  says = 0;
  frees = 0;
  objects = 0;
  entries = 0;
  frames = 0;
  bytes = 0;
}

-- a summary with one line more
abbrev pub with_block : Summary → WiredBlock → Summary
with_block s b = record {
  lines = s.lines + 1;
  skips = s.skips + (if b.block.outcome.enabled then 0 else 1);
  says = s.says + count_by is_say b.block.outcome.shown;
  frees = s.frees + count_by is_free b.block.outcome.shown;
  objects = objects_listed s.objects b.block.listed;
  entries = entries_listed s.entries b.block.listed;
  frames = s.frames + length b.wires;
  bytes = s.bytes + bytes_sent b;
}
