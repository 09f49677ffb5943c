-- The record that bytes are, as it is read line by line.
use Rattle.do_grammar.specs.Lines as text
use Rattle.std.specs.Prelude.{Bool, true, false, ◌≡◌, ℕ, ◌+◌, List as Listed, [], ◌∷◌, ◌++◌, Option}
use Rattle.std.specs.Prelude.{Some, None, Result, Ok, Err, option_map}
use Rattle.do_grammar.specs.Lines.{cut}
use Rattle.do_sched.specs.declared.fault.SchedFault.{SchedFault, TheVariants.BadLine}
use Rattle.do_record.specs.Line.{first_port, text_of}
use Rattle.do_record.specs.declared.line.RecordText.TheVariants.{Bad, End, Input, Shown}
use Rattle.do_record.specs.declared.parts.{Block.Block, Record.Record}

-- blocks of which the last shows one line more; none where there is no block
abbrev pub with_shown : Listed ℕ → Listed Block → Option (Listed Block)
with_shown line [] = None
with_shown line (b ∷ []) = Some (record b { shown = b.shown ++ line } ∷ [])
with_shown line (b ∷ c ∷ bs) = option_map (λ all. b ∷ all) (with_shown line (c ∷ bs))

-- the record of a port with these blocks
abbrev pub recorded : ℕ → Listed Block → Bool → Record
recorded port blocks whole = record { port = port; blocks = blocks; whole = whole }

-- the last line of a record, behind which nothing stands
abbrev pub ended_by : ℕ → ℕ → Listed Block → Listed text.Line → Result Record SchedFault
ended_by port n blocks [] = Ok (recorded port blocks true)
ended_by port n blocks (t ∷ ts) = Err (BadLine (n + 1))

-- the lines from line n on, behind these blocks
abbrev pub read_lines : ℕ → ℕ → Listed Block → Listed text.Line → Result Record SchedFault
read_lines port n blocks [] = Ok (recorded port blocks false)
read_lines port n blocks (t ∷ ts) = elim (text_of port t) [
  | Bad ↦ Err (BadLine n)
  | End ↦ ended_by port n blocks ts
  | Input input ↦
      read_lines port (n + 1) (blocks ++ record { line = n; input = input; shown = [] } ∷ []) ts
  | Shown ↦ elim (with_shown (t.text ++ 10 ∷ []) blocks) [
    | None ↦ Err (BadLine n)
    | Some more ↦ read_lines port (n + 1) more ts
  ]
]

-- the record of these lines, or its first faulty line
abbrev pub record_from : Listed text.Line → Result Record SchedFault
record_from [] = Err (BadLine 1)
record_from (t ∷ ts) = elim (first_port t) [
  | None ↦ Err (BadLine 1)
  | Some port ↦ read_lines port 2 [] ts
]

-- the record that bytes are, or its first faulty line
abbrev pub record_of : Listed ℕ → Result Record SchedFault
record_of bytes = record_from (cut bytes)

-- whether one more line was shown by the last block
abbrev pub HasShown : Option (Listed Block) → Bool → Listed Block → Type 0
HasShown None added blocks = added ≡ false
HasShown (Some more) added blocks = (added ≡ true) × (blocks ≡ more)
