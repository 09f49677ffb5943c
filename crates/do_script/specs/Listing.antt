-- Code: its instructions, and what makes it run without a test.
use Rattle.std.specs.{Prelude.{◌≡◌, true, ℕ, ◌<◌, ◌≤◌, List, length}, List.All}
use Rattle.do_base.specs.values.Texts.{longest_text}
use Rattle.do_grammar.specs.Names.{is_selector, colons}
use Rattle.do_script.specs.declared.instruction.Instruction.{Instruction, TheVariants.{Nil, Number}}
use Rattle.do_script.specs.declared.instruction.Instruction.TheVariants.{Text, Own, Move, Get, Set}
use Rattle.do_script.specs.declared.instruction.Instruction.TheVariants.{Add, Subtract, Multiply}
use Rattle.do_script.specs.declared.instruction.Instruction.TheVariants.{Less, Same, Jump, IfNot}
use Rattle.do_script.specs.declared.instruction.Instruction.TheVariants.{List as NewList, Push}
use Rattle.do_script.specs.declared.instruction.Instruction.TheVariants.{Item, Count, New, Send}
use Rattle.do_script.specs.declared.instruction.Instruction.TheVariants.{Root, Vend, Say, Return}
use Rattle.do_script.specs.declared.instruction.Instruction.TheVariants.{Raise, Catch, EndCatch}

-- the instructions of a method, and how many slots its class has and how many classes there are
pub record Listing : Type 0 where
  pub instructions : List Instruction
  pub slots : ℕ
  pub classes : ℕ

-- one of the sixteen locals
abbrev pub IsLocal : ℕ → Type 0
IsLocal k = k < 16

-- a selector, with one local for each of its colons
pub record IsMessage (selector from : List ℕ) : Type 0 where
  pub name : is_selector selector ≡ true
  pub count : length from ≡ colons selector
  pub locals : All IsLocal from

-- the locals, slots, classes and places that an instruction names are there, and its text is within
-- the limit, for so many slots, classes and instructions
abbrev pub IsWithin : ℕ → ℕ → ℕ → Instruction → Type 0
IsWithin slots classes len (Nil d) = IsLocal d
IsWithin slots classes len (Number d z) = IsLocal d
IsWithin slots classes len (Text d s) = IsLocal d × (length s ≤ longest_text)
IsWithin slots classes len (Own d) = IsLocal d
IsWithin slots classes len (Move d s) = IsLocal d × IsLocal s
IsWithin slots classes len (Get d k) = IsLocal d × (k < slots)
IsWithin slots classes len (Set k s) = (k < slots) × IsLocal s
IsWithin slots classes len (Add d a b) = IsLocal d × IsLocal a × IsLocal b
IsWithin slots classes len (Subtract d a b) = IsLocal d × IsLocal a × IsLocal b
IsWithin slots classes len (Multiply d a b) = IsLocal d × IsLocal a × IsLocal b
IsWithin slots classes len (Less d a b) = IsLocal d × IsLocal a × IsLocal b
IsWithin slots classes len (Same d a b) = IsLocal d × IsLocal a × IsLocal b
IsWithin slots classes len (Jump to) = to ≤ len
IsWithin slots classes len (IfNot a to) = IsLocal a × (to ≤ len)
IsWithin slots classes len (NewList d) = IsLocal d
IsWithin slots classes len (Push d s) = IsLocal d × IsLocal s
IsWithin slots classes len (Item d a i) = IsLocal d × IsLocal a × IsLocal i
IsWithin slots classes len (Count d a) = IsLocal d × IsLocal a
IsWithin slots classes len (New d c) = IsLocal d × (c < classes)
IsWithin slots classes len (Send d t selector from) = IsLocal d × IsLocal t
    × IsMessage selector from
IsWithin slots classes len (Root d p) = IsLocal d × IsLocal p
IsWithin slots classes len (Vend s) = IsLocal s
IsWithin slots classes len (Say s) = IsLocal s
IsWithin slots classes len (Return s) = IsLocal s
IsWithin slots classes len (Raise s) = IsLocal s
IsWithin slots classes len (Catch d to) = IsLocal d × (to ≤ len)
IsWithin slots classes len EndCatch = Unit {0}

-- each instruction names only what is there, and there are at most 4,096
pub record IsValid (code : Listing) : Type 0 where
  pub short : length code.instructions ≤ 4096
  pub within : All (IsWithin code.slots code.classes (length code.instructions)) code.instructions
