-- The rules of a class of checkers.
use Rattle.std.specs.{Prelude.{ℕ, ◌≤◌, Option, List, length, IsTrue}, List.{find, All}}
use Rattle.std.specs.{Option.option_map, Str.bytes_eq}
use Rattle.do_grammar.specs.Names.{is_selector}
use Rattle.do_check.specs.declared.rules.{Rule.Rule, Verdict.{Verdict, TheVariants.{Forward, Deny}}}

-- what is done with the messages of a selector: the verdict of its first rule
abbrev pub verdict_of : List Rule → List ℕ → Option Verdict
verdict_of rules selector =
    option_map (λ r. r.verdict) (find (λ r. bytes_eq selector r.selector) rules)

-- a denial has at most 255 bytes
abbrev pub IsVerdict : Verdict → Type 0
IsVerdict Forward = Unit {0}
IsVerdict (Deny text) = length text ≤ 255

-- a rule is for a selector, and denies within the limit
pub record IsRule (r : Rule) : Type 0 where
  pub selector : IsTrue (is_selector r.selector)
  pub denial : IsVerdict r.verdict

-- each is a rule
abbrev pub AreRules : List Rule → Type 0
AreRules rules = All IsRule rules
