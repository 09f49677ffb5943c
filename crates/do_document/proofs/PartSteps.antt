-- What the checks of a class's parts come to, kind by kind.
use Rattle.do_class_kinds.specs.declared.kind.Kind.TheVariants as kinds
use Rattle.do_document.specs.declared.lists.MethodList.TheVariants as lists
use Rattle.do_document.specs.declared.place.Place.TheVariants as at
use Rattle.std.proofs.Common.{◌≡◌, ◌∙◌, ◌≤◌, ℕ, List, [], ◌∷◌, ◌++◌, length, Option, Some, None}
use Rattle.std.proofs.Common.{refl, sym, ap, arith, false, Result}
use Rattle.std.specs.{Prelude.{codes, option_and_then}, List.{cons_option, filter_map}}
use Rattle.std.proofs.lemmas.List.Elements.{All-nil}
use Rattle.toml.specs.Data.{Members}
use Rattle.do_class.specs.{declared.method.Method.Method, Class.AreMethods}
use Rattle.do_class.{proofs.Methods.AreMethods-none, specs.declared.ids.Slot.Slot}
use Rattle.do_check.specs.{Rules.IsRule, declared.rules.Rule.Rule}
use Rattle.do_class_kinds.specs.{Methods.AreTyped, Native.{native_methods, native_slots}}
use Rattle.do_class_kinds.specs.declared.kind.Kind.{Kind}
use Rattle.do_sig.specs.MethodTypes.{IsMethodType}
use Rattle.do_document.specs.{Checks.misfit, ClassFaults.{methods_fault, native_fault, neither}}
use Rattle.do_document.specs.ClassFaults.{own_fault, parts_fault, rules_fault, slots_fault}
use Rattle.do_document.specs.Classes.{allowed_methods, methods_by, methods_in, rule_for, rule_of}
use Rattle.do_document.specs.Classes.{rules_by, rules_in, slots_by, slots_in}
use Rattle.do_document.specs.{Document.{tables_at, text_at}, Finding.Finds, Lists.key_of}
use Rattle.do_document.specs.Sound.{AreGood, AreMore, ArePartsOf, IsRuleless}
use Rattle.do_document.specs.declared.{place.Place.Place, fault.WorldFault.WorldFault}
use Rattle.do_document.proofs.InOrder.{Tells, two_first, two_none, two_second}
use Rattle.do_document.proofs.InRow.{row_first, row_next, row_none, second_found, told_by}

-- ---- two keys that may not stand in a table

-- something stands at the first key
pub neither_first : (place : Place) (one other : List ℕ) (t : Members) (e : WorldFault)
    → Tells (misfit place one (λ d. false) t) e → Tells (neither place one other t) e
unfolding neither
neither_first place one other t e h =
    two_first (misfit place one (λ d. false) t) (misfit place other (λ d. false) t) e h

-- what is found at the second key, where nothing stands at the first
pub neither_found : (place : Place) (one other : List ℕ) (t : Members)
    (result : Result (Unit {0}) WorldFault) → misfit place one (λ d. false) t ≡ None
    → Finds (misfit place other (λ d. false) t) (λ x. Unit {0}) result
    → Finds (neither place one other t) (λ x. Unit {0}) result
unfolding neither
neither_found place one other t result none h =
    second_found (misfit place one (λ d. false) t) (misfit place other (λ d. false) t)
    (λ x. Unit {0}) result none h

-- ---- good lists

-- no methods and no rules are good
pub nothing_good : AreGood [] []
nothing_good = record {
  are_methods = AreMethods-none;
  typed = All-nil (λ (m : Method). IsMethodType m.signature);
  are_rules = All-nil IsRule;
}

-- methods without rules are good
pub ruleless_good : (methods : List Method) → AreMethods methods → AreTyped methods
    → AreGood methods []
ruleless_good methods are typed =
    record { are_methods = are; typed = typed; are_rules = All-nil IsRule }

-- ---- scripts

module _ (k : ℕ) (t : Members) where
  -- what is checked behind the slots of a class of scripts
  abbrev behind_slots : List (Option WorldFault)
  behind_slots = methods_fault lists.Own [] k t ∷ rules_fault k t ∷ []

  -- the slots have a fault
  pub script_slots : (e : WorldFault) → Tells (slots_fault (at.Class k) t) e
      → Tells (parts_fault k t kinds.Script) e
  unfolding parts_fault
  script_slots e h = row_first (slots_fault (at.Class k) t) behind_slots e h

  module _ (slots : slots_fault (at.Class k) t ≡ None) where
    -- the methods have a fault
    pub script_methods : (e : WorldFault) → Tells (methods_fault lists.Own [] k t) e
        → Tells (parts_fault k t kinds.Script) e
    unfolding parts_fault
    script_methods e h =
        row_next (slots_fault (at.Class k) t) behind_slots e slots
        (row_first (methods_fault lists.Own [] k t) (rules_fault k t ∷ []) e h)

    module _ (methods : methods_fault lists.Own [] k t ≡ None) where
      -- there are rules
      pub script_rules : (e : WorldFault) → Tells (rules_fault k t) e
          → Tells (parts_fault k t kinds.Script) e
      unfolding parts_fault
      script_rules e h =
          row_next (slots_fault (at.Class k) t) behind_slots e slots
          (row_next (methods_fault lists.Own [] k t) (rules_fault k t ∷ []) e methods
          (row_first (rules_fault k t) [] e h))

      -- no part has a fault
      pub script_good : rules_fault k t ≡ None → parts_fault k t kinds.Script ≡ None
      unfolding parts_fault
      script_good rules =
          row_none (slots_fault (at.Class k) t) behind_slots slots
          (row_none (methods_fault lists.Own [] k t) (rules_fault k t ∷ []) methods
          (row_none (rules_fault k t) [] rules refl))

-- a class of scripts has no rule for a selector
no_rule : (selector : Option (List ℕ)) (t : Members) (rules : List Rule)
    → cons_option (option_and_then (rule_for lists.Own t) selector) rules ≡ rules
no_rule None t rules = refl
no_rule (Some s) t rules = refl

-- a class of scripts has no rules
no_rules : (ts : List Members) → filter_map (rule_of lists.Own) ts ≡ []
no_rules [] = refl
no_rules (t ∷ ts) =
    no_rule (text_at (codes "selector") t) t (filter_map (rule_of lists.Own) ts) ∙ no_rules ts

-- the parts of a class of scripts
pub script_parts : (t : Members) (slots : List Slot) (methods : List Method) (rules : List Rule)
    → slots ≡ slots_in t → length slots ≤ 16
    → AreMore lists.Own [] methods [] rules (tables_at (key_of lists.Own) t)
    → ArePartsOf kinds.Script t slots methods rules
unfolding methods_in
script_parts t slots methods rules same few more = record {
  slots_said = same;
  methods_said = more.methods_said;
  rules_said = more.rules_said ∙ no_rules (tables_at (key_of lists.Own) t);
  few = few;
  good = more.good;
  all = λ e. omega (arith, more.all);
}

-- ---- checkers

-- what a checker has by itself
abbrev pub guard : List Method
guard = native_methods kinds.Checker

module _ (k : ℕ) (t : Members) where
  -- what is checked behind the keys of a class of checkers
  abbrev behind_keys : List (Option WorldFault)
  behind_keys =
      methods_fault lists.Allowed guard k t ∷ methods_fault lists.Denied (allowed_methods t) k t ∷
      []

  -- there are slots or methods
  pub checker_own : (e : WorldFault) → Tells (own_fault k t) e
      → Tells (parts_fault k t kinds.Checker) e
  unfolding parts_fault
  checker_own e h = row_first (own_fault k t) behind_keys e h

  module _ (own : own_fault k t ≡ None) where
    -- what is allowed has a fault
    pub checker_allowed : (e : WorldFault) → Tells (methods_fault lists.Allowed guard k t) e
        → Tells (parts_fault k t kinds.Checker) e
    unfolding parts_fault
    checker_allowed e h =
        row_next (own_fault k t) behind_keys e own
        (row_first (methods_fault lists.Allowed guard k t)
        (methods_fault lists.Denied (allowed_methods t) k t ∷ []) e h)

    module _ (allowed : methods_fault lists.Allowed guard k t ≡ None) (methods : List Method)
        (same : methods ≡ allowed_methods t) where
      -- what is denied has a fault
      pub checker_denied : (e : WorldFault) → Tells (methods_fault lists.Denied methods k t) e
          → Tells (parts_fault k t kinds.Checker) e
      unfolding parts_fault
      checker_denied e h =
          row_next (own_fault k t) behind_keys e own
          (row_next (methods_fault lists.Allowed guard k t)
          (methods_fault lists.Denied (allowed_methods t) k t ∷ []) e allowed
          (row_first (methods_fault lists.Denied (allowed_methods t) k t) [] e
          (told_by (methods_fault lists.Denied (allowed_methods t) k t)
          (methods_fault lists.Denied methods k t) e
          (ap (λ ms. methods_fault lists.Denied ms k t) (sym same)) h)))

      -- no part has a fault
      pub checker_good : methods_fault lists.Denied methods k t ≡ None
          → parts_fault k t kinds.Checker ≡ None
      unfolding parts_fault
      checker_good denied =
          row_none (own_fault k t) behind_keys own
          (row_none (methods_fault lists.Allowed guard k t)
          (methods_fault lists.Denied (allowed_methods t) k t ∷ []) allowed
          (row_none (methods_fault lists.Denied (allowed_methods t) k t) []
          (ap (λ ms. methods_fault lists.Denied ms k t) (sym same) ∙ denied) refl))

-- the methods of a checker before those that it denies
pub allowed_said : (t : Members) (methods : List Method) (rules : List Rule)
    → AreMore lists.Allowed guard methods [] rules (tables_at (key_of lists.Allowed) t)
    → methods ≡ allowed_methods t
unfolding methods_in
allowed_said t methods rules more = more.methods_said

-- the parts of a class of checkers
pub checker_parts : (t : Members) (slots : List Slot) (allowed methods : List Method)
    (before rules : List Rule) → slots ≡ native_slots kinds.Checker → length slots ≤ 16
    → AreMore lists.Allowed guard allowed [] before (tables_at (key_of lists.Allowed) t)
    → AreMore lists.Denied allowed methods before rules (tables_at (key_of lists.Denied) t)
    → ArePartsOf kinds.Checker t slots methods rules
unfolding methods_in rules_in
checker_parts t slots allowed methods before rules same few first more = record {
  slots_said = same;
  methods_said = more.methods_said
      ∙ ap (λ ms. ms ++ methods_in lists.Denied t) first.methods_said;
  rules_said = more.rules_said ∙ ap (λ rs. rs ++ rules_in lists.Denied t) first.rules_said;
  few = few;
  good = more.good;
  all = λ e. cc;
}

-- ---- the other native kinds

-- what a class of such a kind is checked for
native_checks : (k : ℕ) (t : Members) (kind : Kind) → IsRuleless kind
    → parts_fault k t kind ≡ native_fault k t
unfolding parts_fault
native_checks k t kinds.Script is = absurd is
native_checks k t kinds.Names is = refl
native_checks k t kinds.Pasteboard is = refl
native_checks k t kinds.Services is = refl
native_checks k t kinds.Center is = refl
native_checks k t kinds.Checker is = absurd is

module _ (k : ℕ) (t : Members) (kind : Kind) (is : IsRuleless kind) where
  -- there are slots or methods
  pub native_own : (e : WorldFault) → Tells (own_fault k t) e → Tells (parts_fault k t kind) e
  native_own e h =
      told_by (parts_fault k t kind) (native_fault k t) e (native_checks k t kind is)
      (two_first (own_fault k t) (rules_fault k t) e h)

  module _ (own : own_fault k t ≡ None) where
    -- there are rules
    pub native_rules : (e : WorldFault) → Tells (rules_fault k t) e
        → Tells (parts_fault k t kind) e
    native_rules e h =
        told_by (parts_fault k t kind) (native_fault k t) e (native_checks k t kind is)
        (two_second (own_fault k t) (rules_fault k t) e own h)

    -- no part has a fault
    pub native_good : rules_fault k t ≡ None → parts_fault k t kind ≡ None
    native_good rules =
        native_checks k t kind is ∙ two_none (own_fault k t) (rules_fault k t) own rules

-- the parts of such a kind are its own
native_said : (t : Members) (kind : Kind) → IsRuleless kind
    → (slots_by kind t ≡ native_slots kind) × (methods_by kind t ≡ native_methods kind)
    × (rules_by kind t ≡ []) × (kind ≡ kinds.Script → ⊥)
native_said t kinds.Script is = absurd is
native_said t kinds.Names is = (refl, refl, refl, λ e. cc)
native_said t kinds.Pasteboard is = (refl, refl, refl, λ e. cc)
native_said t kinds.Services is = (refl, refl, refl, λ e. cc)
native_said t kinds.Center is = (refl, refl, refl, λ e. cc)
native_said t kinds.Checker is = absurd is

-- the parts of a class of such a kind
pub native_parts : (t : Members) (kind : Kind) (slots : List Slot) (methods : List Method)
    → IsRuleless kind → slots ≡ native_slots kind → length slots ≤ 16
    → methods ≡ native_methods kind → AreGood methods []
    → ArePartsOf kind t slots methods []
native_parts t kind slots methods is same few own good =
    let said = native_said t kind is in
    record {
      slots_said = same ∙ sym said.0;
      methods_said = own ∙ sym said.1;
      rules_said = sym said.2;
      few = few;
      good = good;
      all = λ e. absurd (said.3 e);
    }
