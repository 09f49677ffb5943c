-- Lines that go on with a record are read as its blocks.
use Rattle.do_grammar.specs.Lines as text
use Rattle.std.proofs.Common.{◌≡◌, ℕ, ◌+◌, List as Listed, [], ◌∷◌, ◌++◌, Option, Some, None}
use Rattle.std.proofs.Common.{Result, Err, map, sym, ap, ◌∙◌, arith, append_assoc}
use Rattle.std.specs.{Prelude.codes, Fmt.decimal, List.{AllByRecursion, flat_map}}
use Rattle.std.proofs.lemmas.List.{append-nil}
use Rattle.do_base.specs.declared.events.shown.Shown.{Shown}
use Rattle.do_grammar.specs.Lines.{cut}
use Rattle.do_lines.specs.{Lines.joined, Shown.shown_text}
use Rattle.do_sched.specs.{Good.IsPort, Schedule.whole, Spelling.fed}
use Rattle.do_sched.specs.declared.fault.SchedFault.{SchedFault, TheVariants.BadLine}
use Rattle.do_record.specs.{GoodShown.IsShown, Grammar.{AreBlocks, Begins, IsBlock, lines_in}}
use Rattle.do_record.specs.{Line.text_of, Recorded.{ended_by, read_lines, record_from, record_of}}
use Rattle.do_record.specs.{Recorded.with_shown, Spelling.{begun, block_text, first_line}}
use Rattle.do_record.specs.{Spelling.{input_line, input_text}, declared.line.RecordText.RecordText}
use Rattle.do_record.specs.declared.line.RecordText.TheVariants.{Bad, End, Input, Shown as Shows}
use Rattle.do_record.specs.declared.parts.{Block.Block, Record.Record}
use Rattle.do_record.proofs.lines.LineFeeds.{header_free, marked_free, shown_free}
use Rattle.do_record.proofs.lines.TextsExact.{first_read, input_read, shown_read}
use Rattle.do_record.proofs.{lines.ValueFeeds.{lines_append, one_line}, records.Blocks.begun_lines}
use Rattle.do_record.proofs.records.{Blocks.more_shown, FirstLines.cut_fed, Showing.shown_last}

-- ---- what a line leads to

-- a line of what was shown, by the blocks that it makes
abbrev pub by_blocks : ℕ → ℕ → Listed text.Line → Option (Listed Block) → Result Record SchedFault
by_blocks port n ts o = elim o [
  | None ↦ Err (BadLine n)
  | Some more ↦ read_lines port (n + 1) more ts
]

-- a line by what it is
abbrev pub by_kind : ℕ → ℕ → Listed Block → text.Line → Listed text.Line → RecordText
    → Result Record SchedFault
by_kind port n blocks t ts kind = elim kind [
  | Bad ↦ Err (BadLine n)
  | End ↦ ended_by port n blocks ts
  | Input input ↦ read_lines port (n + 1)
      (blocks ++ record { line = n; input = input; shown = [] } ∷ []) ts
  | Shows ↦ by_blocks port n ts (with_shown (t.text ++ 10 ∷ []) blocks)
]

-- the first line, by its port
abbrev pub by_port : Listed text.Line → Option ℕ → Result Record SchedFault
by_port ts o = elim o [
  | None ↦ Err (BadLine 1)
  | Some port ↦ read_lines port 2 [] ts
]

-- a line that was shown goes on with these blocks
shown_step : (port n : ℕ) (blocks more : Listed Block) (t : text.Line) (ts : Listed text.Line)
    → text_of port t ≡ Shows → with_shown (t.text ++ 10 ∷ []) blocks ≡ Some more
    → read_lines port n blocks (t ∷ ts) ≡ read_lines port (n + 1) more ts
shown_step port n blocks more t ts p q =
    ap (by_kind port n blocks t ts) p ∙ ap (by_blocks port n ts) q

-- ---- lines that go on with a record

module _ (port : ℕ) (at_port : IsPort port) where
  -- lines that the last block showed
  shows_read : (ss : Listed Shown) (n : ℕ) (bs : Listed Block) (b : Block) (rest : Listed ℕ)
      → AllByRecursion IsShown ss
      → read_lines port n (bs ++ b ∷ []) (cut (joined (map (shown_text port) ss) ++ rest))
      ≡ read_lines port (n + lines_in (joined (map (shown_text port) ss)))
      (bs ++ more_shown b (joined (map (shown_text port) ss)) ∷ []) (cut rest)
  shows_read [] n bs b rest h =
      ap (λ m. read_lines port m (bs ++ b ∷ []) (cut rest)) (omega arith)
      ∙ ap (λ w. read_lines port (n + 0) (bs ++ record b { shown = w } ∷ []) (cut rest))
      (sym (append-nil b.shown))
  shows_read (s ∷ ss) n bs b rest h =
      let line = fed (shown_text port s) in
      let more = joined (map (shown_text port) ss) in
      let free = shown_free port s at_port h.0 in
      let cuts : cut ((line ++ more) ++ rest) ≡ whole (shown_text port s) ∷ cut (more ++ rest) =
      ap cut (append_assoc line more rest) ∙ cut_fed (shown_text port s) (more ++ rest) free in
      let step : read_lines port n (bs ++ b ∷ []) (whole (shown_text port s) ∷ cut (more ++ rest))
      ≡ read_lines port (n + 1) (bs ++ more_shown b line ∷ []) (cut (more ++ rest)) =
      shown_step port n (bs ++ b ∷ []) (bs ++ more_shown b line ∷ []) (whole (shown_text port s))
      (cut (more ++ rest)) (shown_read port s at_port h.0) (shown_last line bs b) in
      ap (read_lines port n (bs ++ b ∷ [])) cuts ∙ step
      ∙ shows_read ss (n + 1) bs (more_shown b line) rest h.1
      ∙ ap (λ m. read_lines port m (bs ++ more_shown (more_shown b line) more ∷ []) (cut rest))
      (omega (arith, lines_append line more, one_line (shown_text port s) free))
      ∙ ap (λ w. read_lines port (n + lines_in (line ++ more)) (bs ++ record b { shown = w } ∷ [])
      (cut rest)) (append_assoc b.shown line more)

  -- a block
  block_read : (n : ℕ) (bs : Listed Block) (b : Block) (rest : Listed ℕ) → IsBlock port n b
      → read_lines port n bs (cut (block_text port b ++ rest))
      ≡ read_lines port (n + lines_in (block_text port b)) (bs ++ b ∷ []) (cut rest)
  block_read n bs b rest h =
      let line = input_line port b.input in
      let first : Block = record { line = n; input = b.input; shown = [] } in
      let shown = joined (map (shown_text port) h.shows.shown) in
      let free = marked_free port b.input h.good in
      let cuts : cut (block_text port b ++ rest)
      ≡ whole (codes "> " ++ input_text port b.input) ∷ cut (shown ++ rest) =
      ap cut (append_assoc line b.shown rest)
      ∙ cut_fed (codes "> " ++ input_text port b.input) (b.shown ++ rest) free
      ∙ ap (λ w. whole (codes "> " ++ input_text port b.input) ∷ cut (w ++ rest))
      h.shows.spelled in
      let step : read_lines port n bs
      (whole (codes "> " ++ input_text port b.input) ∷ cut (shown ++ rest))
      ≡ read_lines port (n + 1) (bs ++ first ∷ []) (cut (shown ++ rest)) =
      ap (by_kind port n bs (whole (codes "> " ++ input_text port b.input)) (cut (shown ++ rest)))
      (input_read port b.input h.good) in
      ap (read_lines port n bs) cuts ∙ step
      ∙ shows_read h.shows.shown (n + 1) bs first rest h.shows.good
      ∙ ap (λ m. read_lines port m (bs ++ more_shown first shown ∷ []) (cut rest)) (omega (
        arith,
        lines_append line b.shown,
        ap lines_in h.shows.spelled,
        one_line (codes "> " ++ input_text port b.input) free,
      ))
      ∙ ap (λ w. read_lines port (n + lines_in (block_text port b))
      (bs ++ record { line = n; input = b.input; shown = w } ∷ []) (cut rest))
      (sym h.shows.spelled)
      ∙ ap (λ m. read_lines port (n + lines_in (block_text port b))
      (bs ++ record { line = m; input = b.input; shown = b.shown } ∷ []) (cut rest))
      (sym h.placed)

  -- blocks behind others
  blocks_read : (more : Listed Block) (n : ℕ) (bs : Listed Block) (rest : Listed ℕ)
      → AreBlocks port n more
      → read_lines port n bs (cut (flat_map (block_text port) more ++ rest))
      ≡ read_lines port (n + lines_in (flat_map (block_text port) more)) (bs ++ more) (cut rest)
  blocks_read [] n bs rest h =
      ap (λ m. read_lines port m bs (cut rest)) (omega arith)
      ∙ ap (λ ls. read_lines port (n + 0) ls (cut rest)) (sym (append-nil bs))
  blocks_read (b ∷ more) n bs rest h =
      let text = flat_map (block_text port) more in
      ap (λ w. read_lines port n bs (cut w)) (append_assoc (block_text port b) text rest)
      ∙ block_read n bs b (text ++ rest) h.0
      ∙ blocks_read more (n + lines_in (block_text port b)) (bs ++ b ∷ []) rest h.1
      ∙ ap (λ m. read_lines port m ((bs ++ b ∷ []) ++ more) (cut rest))
      (omega (arith, lines_append (block_text port b) text))
      ∙ ap (λ ls. read_lines port (n + lines_in (block_text port b ++ text)) ls (cut rest))
      (append_assoc bs (b ∷ []) more)

-- where bytes begin as a record, what is left is read
pub begins_read : (bytes : Listed ℕ) (port : ℕ) (blocks : Listed Block) (rest : Listed ℕ)
    → Begins bytes port blocks rest
    → record_of bytes ≡ read_lines port (lines_in (begun port blocks) + 1) blocks (cut rest)
begins_read bytes port blocks rest h =
    let text = flat_map (block_text port) blocks in
    let header = codes "record 1 " ++ decimal port in
    let cuts : cut bytes ≡ whole header ∷ cut (text ++ rest) =
    ap cut (h.spelled ∙ append_assoc (first_line port) text rest)
    ∙ cut_fed header (text ++ rest) (header_free port h.at_port) in
    let first : record_from (whole header ∷ cut (text ++ rest))
    ≡ read_lines port 2 [] (cut (text ++ rest)) =
    ap (by_port (cut (text ++ rest))) (first_read port h.at_port) in
    ap record_from cuts ∙ first ∙ blocks_read port h.at_port blocks 2 [] rest h.are_blocks
    ∙ ap (λ n. read_lines port n blocks (cut rest)) (sym (begun_lines port blocks h.at_port))
