-- The labels that the code has found.
use Rattle.std.specs.Prelude.{◌≡◌, ℕ, ◌≤◌, List, length, Option, Some, None, Result, IfOk}
use Rattle.std.specs.{Prelude.if◌then◌else◌, Str.bytes_eq, BTreeMap.get_by}
use Rattle.std.specs.{Cmp.Lexicographic.slice_cmp, Ordering.nat_cmp}
use Rattle.do_script.specs.declared.labels.{Label.Label, Labels.Labels}
use Rattle.do_script.specs.declared.vocabulary.Vocabulary.{Vocabulary}
use Rattle.do_script.specs.declared.instruction.Instruction.{Instruction}
use Rattle.do_script.specs.{Program.{Statement, label_from, size}, Operands.{Scope, instruction}}
use Rattle.do_script.specs.{declared.{form.Form.Form, fault.LineFault.LineFault}, Fault.Reads}
use Rattle.do_script.specs.{Words.words, Listing.IsWithin}

-- the label under a name
abbrev pub label_in : Labels → List ℕ → Option Label
label_in found name = get_by (λ k. slice_cmp nat_cmp name k.now) found.labels

-- the names that the code reads operands by
abbrev pub scope_in : Vocabulary → Scope
scope_in names =
    record { slots = names.slots.now; classes = names.classes.now; label = label_in names.labels }

-- no label stands behind the end
abbrev pub PlacesWithin : Labels → Type 0
PlacesWithin found = (name : List ℕ) (l : Label) → label_in found name ≡ Some l
    → l.place ≤ found.instructions

-- the instruction names only what is there
abbrev pub IsInScope : Vocabulary → Instruction → Type 0
IsInScope names i =
    IsWithin (length names.slots.now) (length names.classes.now) names.labels.instructions i

-- unless memory ran out, what was read is what the form makes of the words, and names only what is
-- there
abbrev pub IsReading : Vocabulary → Form → List ℕ → Result Instruction LineFault → Type 0
IsReading names form operands result =
    Reads (λ i. i) result (instruction (scope_in names) form (words operands))
    × IfOk result (IsInScope names)

-- a label, for its name
abbrev pub if_named : List ℕ → Label → List ℕ → Option Label
if_named l label name = if bytes_eq l name then Some label else None

-- the labels and the number of instructions of these statements
pub record AreLabelsOf (statements : List Statement) (found : Labels) : Type 0 where
  pub labels : (name : List ℕ) → label_in found name ≡ label_from 0 0 statements name
  pub instructions : found.instructions ≡ size statements
