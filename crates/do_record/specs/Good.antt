-- The inputs that may stand in a record: their numbers and texts are within their bounds.
use Rattle.std.specs.{Prelude.{ℕ, List}, List.AllByRecursion}
use Rattle.do_record.specs.declared.parts.{Block.Block, Record.Record, RecordLine.RecordLine}
use Rattle.do_record.specs.declared.parts.RecordLine.TheVariants.{Close, Ended, Run, Start, Take}
use Rattle.do_sched.specs.{Good.{IsPort, IsStart}, declared.version.Version.TheVariants.Second}

-- an input of a node of a port
abbrev pub IsGoodInput : ℕ → RecordLine → Type 0
IsGoodInput port (Start selector values) = IsStart Second port selector values
IsGoodInput port Run = IsPort port
IsGoodInput port (Take from) = IsPort port × IsPort from
IsGoodInput port (Close peer) = IsPort port × IsPort peer
IsGoodInput port (Ended peer) = IsPort port × IsPort peer

-- the inputs of blocks of a node
abbrev pub AreGoodBlocks : ℕ → List Block → Type 0
AreGoodBlocks port blocks = AllByRecursion (λ (b : Block). IsGoodInput port b.input) blocks

-- the inputs of a record
abbrev pub IsGoodRecord : Record → Type 0
IsGoodRecord r = AreGoodBlocks r.port r.blocks
