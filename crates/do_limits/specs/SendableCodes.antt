-- Code that has only numbers and texts that a message can carry.
use Rattle.do_base.specs.declared.values.value.Value.TheVariants as values
use Rattle.std.specs.{Prelude.{List, Some, ◌≡◌}, List.AllByRecursion}
use Rattle.do_class.specs.declared.ids.MethodId.{MethodId}
use Rattle.do_script.specs.Listing.{IsValid, Listing}
use Rattle.do_script.specs.declared.instruction.Instruction.{Instruction}
use Rattle.do_script.specs.declared.instruction.Instruction.TheVariants.{Number, Text}
use Rattle.do_behave.specs.Script.{code_of}
use Rattle.do_limits.specs.Sendable.{IsSendable}

-- the number or the text that an instruction gives
abbrev pub GivesSendable : Instruction → Type 0
GivesSendable (Number d z) = IsSendable (values.Num z)
GivesSendable (Text d s) = IsSendable (values.Text s)
GivesSendable _ = Unit {0}

-- Valid code whose instructions give such values
pub record CodeIsSendable (code : Listing) : Type 0 where
  pub valid : IsValid code
  pub gives : AllByRecursion GivesSendable code.instructions

-- each method's code is such code
abbrev pub CodesAreSendable : List (List Listing) → Type 0
CodesAreSendable codes =
    (method : MethodId) (code : Listing) → code_of codes method ≡ Some code → CodeIsSendable code
