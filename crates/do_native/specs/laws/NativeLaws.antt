-- An act of any kind names only what was shown, and is answered well.
use Rattle.std.proofs.Common.{◌≡◌, ℕ, zero, suc, List as Listed, [], ◌∷◌, Some, subst}
use Rattle.std.specs.{Prelude.slice_get, List.All}
use Rattle.std.proofs.lemmas.List.Elements.{All-head, All-tail}
use Rattle.do_base.specs.declared.values.value.Value.{Value}
use Rattle.do_class.specs.Class.{Class}
use Rattle.do_behave.specs.{Answers.{AnswersWell, NamesShown}, Ready.IsReady}
use Rattle.do_behave.specs.declared.invocation.Invocation.{Invocation}
use Rattle.do_behave.specs.laws.ScriptLaws.{script_answers_well, script_names_shown}
use Rattle.do_native_acts.specs.laws.{GoodActs.{IsGood, MayGood, then_good}, KindLaws.some_same}
use Rattle.do_check.specs.{Acts.check_act, Rules.AreRules, declared.rules.Rule.Rule}
use Rattle.do_check.specs.laws.CheckLaws.{check_answers_well, check_names_shown}
use Rattle.do_class_kinds.specs.declared.kind.Kind.{Kind, TheVariants.{Script, Names, Pasteboard}}
use Rattle.do_class_kinds.specs.declared.kind.Kind.TheVariants.{Services, Center, Checker}
use Rattle.do_names.specs.laws.NameLaws.{names_answers_well, names_names_shown}
use Rattle.do_pboard.specs.laws.BoardLaws.{board_answers_well, board_names_shown}
use Rattle.do_services.specs.laws.ServiceLaws.{services_answers_well, services_names_shown}
use Rattle.do_center.specs.laws.CenterLaws.{center_answers_well, center_names_shown}
use Rattle.do_native.specs.Acts.{IsMadeFor, acts_as, checker_act, native_act}
use Rattle.do_native.specs.declared.native.Native.{Native}

-- the rules of a class are rules, where all are
rules_found : (all : Listed (Listed Rule)) (k : ℕ) (rules : Listed Rule) → All AreRules all
    → slice_get all k ≡ Some rules → AreRules rules
rules_found [] k rules are is = cc
rules_found (r ∷ more) zero rules are is =
    subst AreRules (some_same is) (All-head AreRules r more are)
rules_found (r ∷ more) (suc k) rules are is =
    rules_found more k rules (All-tail AreRules r more are) is

module _ (b : Native) (table : Listed Class) (inv : Invocation) (slots : Listed Value) where
  -- the act of a checker is good where the rules of all classes are
  checker_good : MayGood (IsMadeFor b table) table inv slots (checker_act b table inv slots)
  checker_good =
      then_good (IsMadeFor b table) table inv slots (slice_get b.rules inv.method.class.0)
      (λ rules. Some (check_act rules table inv slots))
      (λ rules found. record {
        shown = check_names_shown rules table inv slots;
        well = λ made ready. check_answers_well rules table inv slots
            (rules_found b.rules inv.method.class.0 rules made.kinds.rules_good found) ready;
      })

  -- the act of each kind is good
  kind_good : (kind : Kind)
      → MayGood (IsMadeFor b table) table inv slots (acts_as b kind table inv slots)
  kind_good Script = record {
    shown = script_names_shown b.program table inv slots;
    well = λ made ready. script_answers_well b.program table inv slots made.program ready;
  }
  kind_good Names = record {
    shown = names_names_shown table inv slots;
    well = λ _ ready. names_answers_well table inv slots ready;
  }
  kind_good Pasteboard = record {
    shown = board_names_shown table inv slots;
    well = λ _ ready. board_answers_well table inv slots ready;
  }
  kind_good Services = record {
    shown = services_names_shown table inv slots;
    well = λ _ ready. services_answers_well table inv slots ready;
  }
  kind_good Center = record {
    shown = center_names_shown table inv slots;
    well = λ _ ready. center_answers_well table inv slots ready;
  }
  kind_good Checker = checker_good

  -- each act is good
  native_good : IsGood (IsMadeFor b table) table inv slots (native_act b table inv slots)
  native_good =
      then_good (IsMadeFor b table) table inv slots (slice_get b.kinds inv.method.class.0)
      (λ kind. acts_as b kind table inv slots) (λ kind _. kind_good kind)

-- an act names only what was shown
pub native_names_shown : (b : Native) (table : Listed Class) (inv : Invocation)
    (slots : Listed Value) → NamesShown inv slots (native_act b table inv slots)
native_names_shown b table inv slots = (native_good b table inv slots).shown

-- an act is answered well where the behaviour is made for the table
pub native_answers_well : (b : Native) (table : Listed Class) (inv : Invocation)
    (slots : Listed Value) → IsMadeFor b table → IsReady table inv slots
    → AnswersWell table inv slots (native_act b table inv slots)
native_answers_well b table inv slots made ready = (native_good b table inv slots).well made ready
