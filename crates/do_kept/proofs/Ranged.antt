-- Codes and rules within their limits, of numbers of 64 bits and texts of bytes, can be carried.
use Rattle.do_native.specs.Acts as native
use Rattle.std.proofs.Common.{◌≡◌, ◌<◌, ◌∙◌, ℕ, true, arith, subst, List as Listed, [], ◌∷◌, length}
use Rattle.std.specs.Prelude.{Some, nat_le, nat_lt, slice_get, suc, zero}
use Rattle.std.{specs.List.{AllByRecursion, AllZip}, proofs.lemmas.Bool.{and_from, le-leb}}
use Rattle.std.proofs.lemmas.{Bool.Decides.nat_tests, List.Elements.recursion_from_All}
use Rattle.do_base.specs.values.Texts.{longest_text}
use Rattle.do_class.specs.{Class.Class, declared.method.Method.Method}
use Rattle.do_grammar.specs.Num.{zigzag}
use Rattle.do_coder.{specs.Parts.is_bytes, proofs.values.PartFacts.bytes_all}
use Rattle.do_script.specs.Listing.{IsWithin, Listing}
use Rattle.do_script.specs.declared.instruction.Instruction.{Instruction}
use Rattle.do_script.specs.declared.instruction.Instruction.TheVariants.{Number, Text}
use Rattle.do_behave.specs.{Programs.{HasCodes, IsMadeFor, Suits}, Script.code_of}
use Rattle.do_check.specs.{Rules.{AreRules, IsRule, IsVerdict}, declared.rules.Rule.Rule}
use Rattle.do_check.specs.declared.rules.Verdict.{Verdict, TheVariants.{Deny, Forward}}
use Rattle.do_native.specs.{Acts.native_act, declared.native.Native.Native}
use Rattle.do_native_acts.specs.laws.KindLaws.{some_same}
use Rattle.do_carried.specs.Ranged.{AreRanged, CodeIsRanged, CodesAreRanged, IsRanged, RuleIsRanged}
use Rattle.do_carried.specs.Ranged.{RulesAreRanged, VerdictIsRanged}
use Rattle.do_limits.specs.SendableActs.{KeepsSendable}
use Rattle.do_limits.specs.SendableCodes.{CodeIsSendable, CodesAreSendable, GivesSendable}
use Rattle.do_limits.proofs.values.Carried.{carry-Num, carry-Text}
use Rattle.do_kept.{specs.Kept.{RulesAreSendable, VerdictIsSendable}, proofs.Natives.natives_keep}

-- ---- codes

-- what an instruction gives can be carried
gives_one : (slots classes len : ℕ) (i : Instruction) → IsWithin slots classes len i →
    IsRanged i → GivesSendable i
gives_one slots classes len (Number d z) within ranged = carry-Num 8 z ∙ less (zigzag z) ranged
  where
    less : (n : ℕ) → n < 18446744073709551616 → nat_lt n 18446744073709551616 ≡ true
    less n h = grind (arith, nat_tests, h)
gives_one slots classes len (Text d s) within ranged =
    carry-Text 8 s
    ∙ and_from (nat_le (length s) longest_text) (is_bytes s)
    (le-leb (length s) longest_text within.1) (bytes_all s ranged)
gives_one slots classes len _ within ranged = tt

-- so can what all instructions give
gives_all : (slots classes len : ℕ) (is : Listed Instruction) →
    AllByRecursion (IsWithin slots classes len) is → AreRanged is →
    AllByRecursion GivesSendable is
gives_all slots classes len [] within ranged = tt
gives_all slots classes len (i ∷ is) within ranged = (
  gives_one slots classes len i within.0 ranged.0,
  gives_all slots classes len is within.1 ranged.1,
)

-- the codes of a class
class_sendable : (slots classes : ℕ) (codes : Listed Listing) (methods : Listed Method) →
    AllZip (λ code method. Suits slots classes code) codes methods →
    AllByRecursion CodeIsRanged codes → AllByRecursion CodeIsSendable codes
class_sendable slots classes [] methods suits ranged = tt
class_sendable slots classes (code ∷ codes) [] suits ranged = absurd suits
class_sendable slots classes (code ∷ codes) (m ∷ methods) suits ranged = (
  record {
    valid = suits.0.valid;
    gives =
        gives_all code.slots code.classes (length code.instructions) code.instructions
        (recursion_from_All (IsWithin code.slots code.classes (length code.instructions))
        code.instructions suits.0.valid.within) ranged.0;
  },
  class_sendable slots classes codes methods suits.1 ranged.1,
)

-- the code at a place of a class
code_at : (codes : Listed Listing) (k : ℕ) (code : Listing) →
    AllByRecursion CodeIsSendable codes → slice_get codes k ≡ Some code → CodeIsSendable code
code_at [] k code h e = cc
code_at (c ∷ codes) zero code h e = subst CodeIsSendable (some_same e) h.0
code_at (c ∷ codes) (suc k) code h e = code_at codes k code h.1 e

-- the code at a place of the class at a place
code_in : (classes : ℕ) (codes : Listed (Listed Listing)) (table : Listed Class) (k j : ℕ)
    (code : Listing) → AllZip (HasCodes classes) codes table → CodesAreRanged codes →
    code_of codes (record { class = record { 0 = k }; index = j }) ≡ Some code →
    CodeIsSendable code
code_in classes [] table k j code made ranged e = cc
code_in classes (cs ∷ codes) [] k j code made ranged e = absurd made
code_in classes (cs ∷ codes) (c ∷ table) zero j code made ranged e =
    code_at cs j code (class_sendable (length c.slots) classes cs c.methods made.0 ranged.0) e
code_in classes (cs ∷ codes) (c ∷ table) (suc k) j code made ranged e =
    code_in classes codes table k j code made.1 ranged.1 e

-- the codes of a program that is made for a table
codes_sendable : (codes : Listed (Listed Listing)) (table : Listed Class) →
    IsMadeFor codes table → CodesAreRanged codes → CodesAreSendable codes
codes_sendable codes table made ranged method code e =
    code_in (length table) codes table method.class.0 method.index code made ranged e

-- ---- rules

-- the text of a denial
verdict_sendable : (v : Verdict) → IsVerdict v → VerdictIsRanged v → VerdictIsSendable v
verdict_sendable Forward h k = tt
verdict_sendable (Deny text) h k = (omega (arith, h), k)

-- those of the rules of a class
rules_of : (rules : Listed Rule) → AllByRecursion IsRule rules →
    AllByRecursion RuleIsRanged rules → RulesAreSendable rules
rules_of [] h k = tt
rules_of (r ∷ rules) h k =
    (verdict_sendable r.verdict h.0.denial k.0, rules_of rules h.1 k.1)

-- those of all rules
rules_sendable : (rules : Listed (Listed Rule)) → AllByRecursion AreRules rules →
    RulesAreRanged rules → AllByRecursion RulesAreSendable rules
rules_sendable [] h k = tt
rules_sendable (rs ∷ rules) h k =
    (rules_of rs (recursion_from_All IsRule rs h.0) k.0, rules_sendable rules h.1 k.1)

-- ---- worlds

-- a behaviour that is made for a table keeps what can be carried
pub worlds_keep : (b : Native) (table : Listed Class) → native.IsMadeFor b table →
    CodesAreRanged b.program → RulesAreRanged b.rules → KeepsSendable table (native_act b)
worlds_keep b table made codes rules =
    natives_keep b (codes_sendable b.program table made.program codes)
    (rules_sendable b.rules
    (recursion_from_All AreRules b.rules made.kinds.rules_good) rules) table
