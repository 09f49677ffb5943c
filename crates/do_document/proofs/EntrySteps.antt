-- The rule of a table beside its method, and what both make of a list.
use Rattle.std.proofs.Common.{◌≡◌, ◌≤◌, ℕ, List, ◌++◌, length, append-nil, subst, nat_le, Option}
use Rattle.std.proofs.{Common.{Some, None, true, sym, arith}, lemmas.Bool.and_parts}
use Rattle.std.proofs.lemmas.Bool.Decides.{nat_tests}
use Rattle.std.specs.{Prelude.{IfSome, codes, option_and_then}, Option.{option_map, option_to_list}}
use Rattle.std.proofs.lemmas.List.Elements.{All-push}
use Rattle.toml.specs.Data.{Members}
use Rattle.do_sig.specs.MethodTypes.{MethodType}
use Rattle.do_class.specs.declared.method.Method.{Method}
use Rattle.do_check.specs.{Rules.{AreRules, IsRule}, declared.rules.Rule.Rule}
use Rattle.do_class_kinds.specs.Methods.{method_said, signature_of}
use Rattle.do_document.specs.ClassFaults.{entry_checks, is_rule, method_checks, rule_fault}
use Rattle.do_document.specs.{Classes.{method_of, rule_for, rule_of}, Document.text_at}
use Rattle.do_document.specs.{Lists.keys_of, declared.lists.MethodList.MethodList}
use Rattle.do_document.specs.declared.{place.Place.Place, fault.WorldFault.WorldFault}
use Rattle.do_document.proofs.InOrder.{Tells, two_first, two_none, two_second}

-- a method has the selector that its table says, by what the types spell
by_signature : (selector : List ℕ) (m : Method) (o : Option MethodType)
    → option_map (λ signature. record { selector = selector; signature = signature }) o ≡ Some m
    → Some selector ≡ Some m.selector
by_signature selector m None e = cc
by_signature selector m (Some s) e = cc

-- the same, by the texts of its table
by_texts : (m : Method) (selector types : Option (List ℕ))
    → option_and_then (λ s. option_and_then (method_said s) types) selector ≡ Some m
    → selector ≡ Some m.selector
by_texts m None types e = cc
by_texts m (Some s) None e = cc
by_texts m (Some s) (Some types) e = by_signature s m (signature_of types) e

-- a method has the selector that its table says
selector_said : (t : Members) (m : Method) → method_of t ≡ Some m
    → text_at (codes "selector") t ≡ Some m.selector
selector_said t m said =
    by_texts m (text_at (codes "selector") t) (text_at (codes "types") t) said

-- the rule of a table is that for its method's selector
pub rule_said : (list : MethodList) (t : Members) (m : Method) → method_of t ≡ Some m
    → rule_of list t ≡ rule_for list t m.selector
rule_said list t m said = let named = selector_said t m said in rw named

-- a rule's text has at most 255 bytes
pub within_rule : (text : List ℕ) → is_rule text ≡ true → length text ≤ 255
within_rule text is =
    let parts = and_parts (nat_le 1 (length text)) (nat_le (length text) 255) is in
    let below = parts.1 in grind (arith, nat_tests)

-- a good rule, if there is one, joins good rules
pub rules_more : (rules : List Rule) (o : Option Rule) → AreRules rules → IfSome o IsRule
    → AreRules (rules ++ option_to_list o)
rules_more rules None are good = subst AreRules (sym (append-nil rules)) are
rules_more rules (Some r) are good = All-push IsRule rules r are good

-- the method of a table has a fault
pub entry_first : (list : MethodList) (place : Place) (methods : List Method) (t : Members)
    (e : WorldFault) → Tells (method_checks (keys_of list) place methods t) e
    → Tells (entry_checks list place methods t) e
unfolding entry_checks
entry_first list place methods t e h =
    two_first (method_checks (keys_of list) place methods t) (rule_fault list place t) e h

-- the rule of a table has a fault
pub entry_second : (list : MethodList) (place : Place) (methods : List Method) (t : Members)
    (e : WorldFault) → method_checks (keys_of list) place methods t ≡ None
    → Tells (rule_fault list place t) e → Tells (entry_checks list place methods t) e
unfolding entry_checks
entry_second list place methods t e good h =
    two_second (method_checks (keys_of list) place methods t) (rule_fault list place t) e good h

-- a table has no fault
pub entry_good : (list : MethodList) (place : Place) (methods : List Method) (t : Members)
    → method_checks (keys_of list) place methods t ≡ None → rule_fault list place t ≡ None
    → entry_checks list place methods t ≡ None
unfolding entry_checks
entry_good list place methods t good rule =
    two_none (method_checks (keys_of list) place methods t) (rule_fault list place t) good rule
