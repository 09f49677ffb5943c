-- A method's text as a program: what each line says, where its labels are, and what is wrong with
-- it.
use Rattle.do_script.specs.Operands as operands
use Rattle.std.specs.Prelude.{ℕ, ◌+◌, ◌==◌, nat_le, Bool, true, false, List, [], ◌∷◌, ◌++◌, map}
use Rattle.std.specs.Prelude.{take, Option, Some, None, Result, Ok, Err, if◌then◌else◌, slice_get}
use Rattle.std.specs.{Option.{ok_or, option_and_then, option_map}, Str.bytes_eq}
use Rattle.do_grammar.specs.Lines.{cut}
use Rattle.do_script.specs.declared.{instruction.Instruction.Instruction, labels.Label.Label}
use Rattle.do_script.specs.{declared.fault.Kind.{Kind, TheVariants.{Op, Jump, Long}}, Fault.◌>>=◌}
use Rattle.do_script.specs.{Words.words, InstructionNames.form_of, Operands.Scope}

-- what a line says: nothing, the definition of a label, a faulty one, or an instruction by its name
-- and the words behind it
pub data Statement : Type 0 where
  nothing : Statement
  label : List ℕ → Statement
  no_label : Statement
  instruction : List ℕ → List (List ℕ) → Statement

-- the first byte is this one
abbrev pub begins_with : ℕ → List ℕ → Bool
begins_with b [] = false
begins_with b (c ∷ bytes) = c == b

-- a label and the words behind it, of which there may be none
abbrev pub labelled : Result (List ℕ) Kind → List (List ℕ) → Statement
labelled (Ok name) [] = label name
labelled (Ok name) (w ∷ ws) = no_label
labelled (Err k) ws = no_label

-- a line with no word, or whose first word begins with `;`, says nothing; one that begins with `@`
-- defines a label
abbrev pub statement_of : List (List ℕ) → Statement
statement_of [] = nothing
statement_of (w ∷ ws) =
    if begins_with 59 w then nothing else
    (if begins_with 64 w then labelled (operands.label w) ws else instruction w ws)

-- what the lines of a text say
unfoldable pub program : List ℕ → List Statement
program text = map (λ l. statement_of (words l.text)) (cut text)

-- a line that counts as an instruction
abbrev pub is_instruction : Statement → Bool
is_instruction (instruction w ws) = true
is_instruction _ = false

-- how many instructions there are
abbrev pub size : List Statement → ℕ
size [] = 0
size (x ∷ more) = (if is_instruction x then 1 else 0) + size more

-- where a label is first defined, in statements that begin at a line and behind so many
-- instructions
abbrev pub label_from : ℕ → ℕ → List Statement → List ℕ → Option Label
label_from line place [] name = None
label_from line place (nothing ∷ more) name = label_from (line + 1) place more name
label_from line place (label l ∷ more) name =
    if bytes_eq l name then Some (record { line = line; place = place }) else label_from
    (line + 1) place more name
label_from line place (no_label ∷ more) name = label_from (line + 1) place more name
label_from line place (instruction w ws ∷ more) name = label_from (line + 1) (place + 1) more name

-- a label that is first defined at this line
abbrev pub defined_at : ℕ → Option Label → Result (List Instruction) Kind
defined_at line None = Err Jump
defined_at line (Some l) = if l.line == line then Ok [] else Err Jump

-- the instructions that a statement makes, one or none, or what is wrong with it, at a line behind
-- so many instructions
abbrev pub made : Scope → ℕ → ℕ → Statement → Result (List Instruction) Kind
made s line before nothing = Ok []
made s line before (label name) = defined_at line (s.label name)
made s line before no_label = Err Op
made s line before (instruction w ws) =
    if nat_le 4096 before then Err Long else
    (ok_or (form_of w) Op >>= λ form. operands.instruction s form ws >>= λ i. Ok (i ∷ []))

-- the fault, if it is one
abbrev pub fault_in : Result (List Instruction) Kind → Option Kind
fault_in (Ok is) = None
fault_in (Err k) = Some k

-- the instructions, if it is none
abbrev pub code_in : Result (List Instruction) Kind → List Instruction
code_in (Ok is) = is
code_in (Err k) = []

-- what the statement at a line makes
abbrev pub made_at : Scope → List Statement → ℕ → Option (Result (List Instruction) Kind)
made_at s statements line =
    option_map (λ x. made s line (size (take line statements)) x) (slice_get statements line)

-- what is wrong with a line, counted from 0
abbrev pub fault_at : Scope → List Statement → ℕ → Option Kind
fault_at s statements line = option_and_then fault_in (made_at s statements line)

-- the instructions of statements that begin at a line and behind so many instructions
abbrev pub code_from : Scope → ℕ → ℕ → List Statement → List Instruction
code_from s line before [] = []
code_from s line before (x ∷ more) =
    code_in (made s line before x) ++ code_from s (line + 1) (before + size (x ∷ [])) more
