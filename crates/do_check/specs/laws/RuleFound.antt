-- What is known of a verdict: it is that of a rule for the selector.
use Rattle.std.proofs.Common.{◌≡◌, ℕ, Bool, true, false, List as Listed, [], ◌∷◌, Option, Some}
use Rattle.std.proofs.Common.{None, refl, sym, subst, IsTrue}
use Rattle.std.specs.{Prelude.cond, List.find, Option.{option_map, IfSome}, Str.bytes_eq}
use Rattle.std.proofs.lemmas.{List.Elements.{All-head, All-tail}, Slice.Eq.bytes_eq-Decides}
use Rattle.do_grammar.specs.Names.{is_selector}
use Rattle.do_native_acts.specs.laws.KindLaws.{some_same}
use Rattle.do_check.specs.Rules.{IsRule, IsVerdict, AreRules, verdict_of}
use Rattle.do_check.specs.declared.rules.{Rule.Rule, Verdict.Verdict}

-- a rule that is for a selector
abbrev IsFor : Listed ℕ → Rule → Type 0
IsFor selector r = IsRule r × (selector ≡ r.selector)

-- the rule that is found is one of them, and for this selector
rule_found : (rules : Listed Rule) (selector : Listed ℕ) → AreRules rules
    → IfSome (find (λ r. bytes_eq selector r.selector) rules) (IsFor selector)
rule_found [] selector all = tt
rule_found (r ∷ rules) selector all =
    choose (bytes_eq selector r.selector) refl
    (rule_found rules selector (All-tail IsRule r rules all))
  where
    choose : (b : Bool) → bytes_eq selector r.selector ≡ b
        → IfSome (find (λ x. bytes_eq selector x.selector) rules) (IsFor selector)
        → IfSome (cond b (Some r) (find (λ x. bytes_eq selector x.selector) rules)) (IsFor selector)
    choose true is rest =
        (All-head IsRule r rules all, (bytes_eq-Decides selector r.selector).0 is)
    choose false is rest = rest

-- a verdict is of a selector, and denies within the limit
pub verdict_found : (rules : Listed Rule) (selector : Listed ℕ) (v : Verdict)
    → verdict_of rules selector ≡ Some v → AreRules rules
    → IsTrue (is_selector selector) × IsVerdict v
verdict_found rules selector v is all =
    from (find (λ r. bytes_eq selector r.selector) rules) (rule_found rules selector all) is
  where
    from : (o : Option Rule) → IfSome o (IsFor selector) → option_map (λ r. r.verdict) o ≡ Some v
        → IsTrue (is_selector selector) × IsVerdict v
    from None known e = cc
    from (Some r) known e = (
      subst (λ s. IsTrue (is_selector s)) (sym known.1) known.0.selector,
      subst IsVerdict (some_same e) known.0.denial,
    )
