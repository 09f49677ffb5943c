-- The inputs that serving does, and how a record has them.
use Rattle.do_network.specs.declared.input.Done.TheVariants as done
use Rattle.do_network.specs.declared.input.Input.TheVariants as input
use Rattle.std.specs.Prelude.{List, None, Option, Some, [], map, ℕ, ◌+◌, ◌∷◌}
use Rattle.do_base.specs.declared.events.shown.Shown.{Shown}
use Rattle.do_lines.specs.{Lines.joined, Shown.shown_text}
use Rattle.do_network.specs.declared.input.{Done.Done, Input.Input}
use Rattle.do_record.specs.{Grammar.lines_in, Spelling.block_text, declared.parts.Block.Block}
use Rattle.do_record.specs.declared.parts.RecordLine.{RecordLine}
use Rattle.do_record.specs.declared.parts.RecordLine.TheVariants.{Close, Ended, Run, Start, Take}
use Rattle.do_sched.specs.{Good.{IsPort, IsStart}, declared.version.Version.TheVariants.Second}
use Rattle.do_serve.specs.Rules.{Rules}

-- an input that serving does at a port: a start that may stand in a schedule, what comes of a peer
-- with a port, and no time-out
abbrev pub IsServed : ℕ → Input → Type 0
IsServed port input.Run = Unit {0}
IsServed port (input.Start selector values) = IsStart Second port selector values
IsServed port (input.Frame peer frame) = IsPort peer
IsServed port (input.Close peer) = IsPort peer
IsServed port (input.Ended peer) = IsPort peer
IsServed port input.Timeout = ⊥

-- the input that stands in a record for one that was done
abbrev pub line_moved : Input → Option RecordLine
line_moved input.Run = Some Run
line_moved (input.Start selector values) = Some (Start selector values)
line_moved (input.Frame peer frame) = Some (Take peer)
line_moved (input.Close peer) = Some (Close peer)
line_moved (input.Ended peer) = Some (Ended peer)
line_moved input.Timeout = None

-- by what came of it: one that closed an end stands as a close, and one that was skipped not at all
abbrev pub line_by : Input → Done → Option RecordLine
line_by i done.Moved = line_moved i
line_by i done.Skipped = None
line_by i (done.Closed peer fault) = Some (Close peer)

-- a block of an input at a line, which showed this
abbrev pub block_at : ℕ → ℕ → RecordLine → List Shown → Block
block_at port line input shown = record {
  line = line;
  input = input;
  shown = joined (map (shown_text port) shown);
}

-- a block before others, which stand from the line behind it on, where there is an input
abbrev pub with_block : ℕ → ℕ → Option RecordLine → List Shown → (ℕ → List Block) → List Block
with_block port line None shown rest = rest line
with_block port line (Some input) shown rest =
    block_at port line input shown
    ∷ rest (line + lines_in (block_text port (block_at port line input shown)))

-- the blocks of inputs that are done one after another, from a line on
abbrev pub blocks_of : {Part : Type 0} → Rules Part → ℕ → ℕ → Part → List Input → List Block
blocks_of rules port line part [] = []
blocks_of rules port line part (i ∷ is) =
    let m = rules.step part i in
    with_block port line (line_by i m.done) m.shown (λ next. blocks_of rules port next m.part is)
