-- Code and rules whose numbers have 64 bits, and whose texts are of bytes.
use Rattle.std.specs.{Prelude.{List, ◌<◌, ◌^◌}, List.AllByRecursion}
use Rattle.do_grammar.specs.{Grammar.IsBytes, Num.zigzag}
use Rattle.do_script.specs.{Listing.Listing, declared.instruction.Instruction.Instruction}
use Rattle.do_script.specs.declared.instruction.Instruction.TheVariants.{Number, Text}
use Rattle.do_check.specs.declared.rules.{Rule.Rule, Verdict.{Verdict, TheVariants.{Deny, Forward}}}

-- the number of an instruction has 64 bits, or its text is of bytes
abbrev pub IsRanged : Instruction → Type 0
IsRanged (Number d z) = zigzag z < 2 ^ 64
IsRanged (Text d s) = IsBytes s
IsRanged _ = Unit {0}

-- so it is of each of these
abbrev pub AreRanged : List Instruction → Type 0
AreRanged instructions = AllByRecursion IsRanged instructions

-- so it is of the instructions of a method
abbrev pub CodeIsRanged : Listing → Type 0
CodeIsRanged code = AreRanged code.instructions

-- so it is of all methods of all classes
abbrev pub CodesAreRanged : List (List Listing) → Type 0
CodesAreRanged codes = AllByRecursion (λ cs. AllByRecursion CodeIsRanged cs) codes

-- the text of a denial is of bytes
abbrev pub VerdictIsRanged : Verdict → Type 0
VerdictIsRanged Forward = Unit {0}
VerdictIsRanged (Deny text) = IsBytes text

-- so it is of a rule
abbrev pub RuleIsRanged : Rule → Type 0
RuleIsRanged r = VerdictIsRanged r.verdict

-- so it is of the rules of all classes
abbrev pub RulesAreRanged : List (List Rule) → Type 0
RulesAreRanged rules = AllByRecursion (λ rs. AllByRecursion RuleIsRanged rs) rules
