-- Which bytes are a record, and which line of other bytes is at fault.
use Rattle.std.specs.Prelude.{◌≡◌, ◌≢◌, ℕ, ◌+◌, ◌==◌, List as Listed, [], ◌∷◌, ◌++◌, map, Result}
use Rattle.std.specs.{Prelude.{Ok, Err}, List.{AllByRecursion, count_by}}
use Rattle.do_base.specs.declared.events.shown.Shown.{Shown}
use Rattle.do_lines.specs.{Lines.joined, Shown.shown_text}
use Rattle.do_sched.specs.{Good.IsPort, Spelling.fed, declared.fault.SchedFault.SchedFault}
use Rattle.do_sched.specs.declared.fault.SchedFault.TheVariants.{BadLine, Memory}
use Rattle.do_record.specs.{Good.IsGoodInput, GoodShown.IsShown}
use Rattle.do_record.specs.Spelling.{begun, block_text, ending, first_line, input_line, last_line}
use Rattle.do_record.specs.declared.parts.{Block.Block, Record.Record, RecordLine.RecordLine}

-- how many lines a text has, each with its line feed
abbrev pub lines_in : Listed ℕ → ℕ
lines_in text = count_by (λ b. b == 10) text

-- lines of what a node may show
pub record IsShownText (port : ℕ) (text : Listed ℕ) : Type 0 where
  pub shown : Listed Shown
  pub spelled : text ≡ joined (map (shown_text port) shown)
  pub good : AllByRecursion IsShown shown

-- a block of a node, at its line
pub record IsBlock (port line : ℕ) (b : Block) : Type 0 where
  pub placed : b.line ≡ line
  pub good : IsGoodInput port b.input
  pub shows : IsShownText port b.shown

-- blocks of a node, one behind another from a line on
abbrev pub AreBlocks : ℕ → ℕ → Listed Block → Type 0
AreBlocks port line [] = Unit {0}
AreBlocks port line (b ∷ bs) =
    IsBlock port line b × AreBlocks port (line + lines_in (block_text port b)) bs

-- the bytes begin with the first line of a node's record and with these blocks, and the rest is
-- left
pub record Begins (bytes : Listed ℕ) (port : ℕ) (blocks : Listed Block)
    (rest : Listed ℕ) : Type 0 where
  pub spelled : bytes ≡ begun port blocks ++ rest
  pub at_port : IsPort port
  pub are_blocks : AreBlocks port 2 blocks

-- the bytes are a record: behind its blocks stands the last line where it is whole, else nothing
abbrev pub IsRecord : Listed ℕ → Record → Type 0
IsRecord bytes r = Begins bytes r.port r.blocks (ending r.whole)

-- what is left begins with no line of the node: with no input, with nothing that may be shown,
-- unless no input stands before it, and not with the last line
pub record IsNoLine (port : ℕ) (blocks : Listed Block) (rest : Listed ℕ) : Type 0 where
  pub some : rest ≢ []
  pub no_input : (input : RecordLine) (more : Listed ℕ) → IsGoodInput port input
      → rest ≢ input_line port input ++ more
  pub no_shown : (s : Shown) (more : Listed ℕ) → IsShown s → blocks ≢ []
      → rest ≢ fed (shown_text port s) ++ more
  pub no_end : (more : Listed ℕ) → rest ≢ last_line ++ more

-- the line is the first that may not stand at its place
pub data IsFaultAt (bytes : Listed ℕ) : ℕ → Type 0 where
  -- it is no first line
  at_first : ((port : ℕ) (rest : Listed ℕ) → IsPort port → bytes ≢ first_line port ++ rest)
      → IsFaultAt bytes 1
  -- behind the first line and some blocks it is no line of a record
  between : (port : ℕ) (blocks : Listed Block) (rest : Listed ℕ) → Begins bytes port blocks rest
      → IsNoLine port blocks rest → IsFaultAt bytes (lines_in (begun port blocks) + 1)
  -- it stands behind the last line
  behind : (port : ℕ) (blocks : Listed Block) (rest : Listed ℕ)
      → Begins bytes port blocks (last_line ++ rest) → rest ≢ []
      → IsFaultAt bytes (lines_in (begun port blocks) + 2)

-- the answer is the record that the bytes are, or their faulty line; nothing is said where memory
-- ran out, and no other fault comes
abbrev pub TellsRecord : Listed ℕ → Result Record SchedFault → Type 0
TellsRecord bytes (Ok r) = IsRecord bytes r
TellsRecord bytes (Err (BadLine line)) = IsFaultAt bytes line
TellsRecord bytes (Err Memory) = Unit {0}
TellsRecord bytes (Err fault) = ⊥
