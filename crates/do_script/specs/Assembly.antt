-- What the assembler's answers tell of a text.
use Rattle.std.specs.Prelude.{◌≡◌, ℕ, ◌+◌, ◌-◌, ◌<◌, ◌≤◌, List, length, Some, None}
use Rattle.do_script.specs.declared.{instruction.Instruction.Instruction, fault.Kind.Kind}
use Rattle.do_script.specs.declared.fault.Kind.TheVariants.{Op, Local, Jump, Long}
use Rattle.do_script.specs.declared.fault.LineFault.{LineFault}
use Rattle.do_script.specs.declared.fault.LineFault.TheVariants.{Bad, Memory as NoMemory}
use Rattle.do_script.specs.declared.fault.AsmFault.{AsmFault, TheVariants.{BadOp, BadLocal}}
use Rattle.do_script.specs.declared.fault.AsmFault.TheVariants.{BadJump, TooLong, Memory}
use Rattle.do_script.specs.{Listing.Listing, Operands.Scope}
use Rattle.do_script.specs.Program.{Statement, program, label_from, fault_at, code_from}

-- the names that a text can use: those given, and its own labels
abbrev pub scope : List (List ℕ) → List (List ℕ) → List ℕ → Scope
scope slots classes text =
    record { slots = slots; classes = classes; label = label_from 0 0 (program text) }

-- no line has a fault, and these are the instructions, in order
pub record IsCode (s : Scope) (statements : List Statement) (code : List Instruction) : Type 0 where
  pub good : (line : ℕ) → fault_at s statements line ≡ None
  pub made : code ≡ code_from s 0 0 statements

-- this line, counted from 0, has this fault, and no line before it has one
pub record IsFirstFault (s : Scope) (statements : List Statement) (line : ℕ)
    (kind : Kind) : Type 0 where
  pub here : fault_at s statements line ≡ Some kind
  pub before : (earlier : ℕ) → earlier < line → fault_at s statements earlier ≡ None

-- no line has a fault
abbrev pub HasNoFault : Scope → List Statement → Type 0
HasNoFault s statements = (line : ℕ) → fault_at s statements line ≡ None

-- the refusal of a text whose first fault is this one, at this line, counted from 0
abbrev pub refusal : Kind → ℕ → AsmFault
refusal Op line = BadOp (line + 1)
refusal Local line = BadLocal (line + 1)
refusal Jump line = BadJump (line + 1)
refusal Long line = TooLong

-- the first fault, with its line counted from 1. If memory runs out, nothing is said
abbrev pub IsFault : Scope → List Statement → AsmFault → Type 0
IsFault s statements (BadOp n) = (1 ≤ n) × IsFirstFault s statements (n - 1) Op
IsFault s statements (BadLocal n) = (1 ≤ n) × IsFirstFault s statements (n - 1) Local
IsFault s statements (BadJump n) = (1 ≤ n) × IsFirstFault s statements (n - 1) Jump
IsFault s statements TooLong = (line : ℕ) × IsFirstFault s statements line Long
IsFault s statements Memory = Unit {0}

-- the code that a text makes, for so many slots and classes
pub record IsCodeOf (slots classes : List (List ℕ)) (text : List ℕ) (code : Listing) : Type 0 where
  pub instructions : IsCode (scope slots classes text) (program text) code.instructions
  pub slots_given : code.slots ≡ length slots
  pub classes_given : code.classes ≡ length classes

-- the answer to a fault at a line, counted from 0
abbrev pub answer : LineFault → ℕ → AsmFault
answer (Bad kind) line = refusal kind line
answer NoMemory line = Memory
