use Rattle.do_document.proofs.classes.classes_of.Goals as goal
use Rattle.std.proofs.Common.{◌≡◌, ◌∙◌, ◌++◌, ◌∷◌, [], None, Some, Bor, BTreeMap, Global, String}
use Rattle.std.proofs.Common.{ap, arith, get_or, length, length-append, map, subst, sym, take, ◌+◌}
use Rattle.std.{specs.List.{All, AllZip}, proofs.lemmas.List.Elements.All-push}
use Rattle.toml.specs.{View.table_view, declared.value.Value.Value}
use Rattle.do_check.specs.Rules.{AreRules}
use Rattle.do_class.specs.Class.{Class}
use Rattle.do_class_kinds.proofs.Growing.{surely_more}
use Rattle.do_document.specs.{ClassFaults.class_checks, Classes.{class_of, class_rules, kind_of}}
use Rattle.do_document.specs.Sound.{HasTypes, IsClassOf, IsKindOf}
use Rattle.do_document.proofs.{ClassSteps.{class_said, rules_said}, Growing.{made_more, zip_more}}
use Rattle.do_document.proofs.Loops.{class_turn}

pub loop-k-preserved : goal.loop-k-preserved
loop-k-preserved c =
    let added : Class = record {
      name = c.in_ok-name.field-0.name;
      slots = c.in_ok-name.field-0.parts.slots;
      methods = c.in_ok-name.field-0.parts.methods;
    } in
    let next = c.in_ok-name.ensures.1 in
    let none : class_checks c.loop-k.k c.loop-k.classes
    (table_view (get_or c.args.tables.now c.loop-k.k c.index-tables-k.result).now) ≡ None =
    subst (λ (t : Bor (BTreeMap (String Global) Value)).
    class_checks c.loop-k.k c.loop-k.classes (table_view t.now) ≡ None)
    c.index-tables-k.is c.in_ok-name.ensures.0 in
    let said : class_of (table_view (get_or c.args.tables.now c.loop-k.k
    c.index-tables-k.result).now)
    ≡ Some added =
    subst (λ (t : Bor (BTreeMap (String Global) Value)).
    class_of (table_view t.now) ≡ Some added) c.index-tables-k.is next.said in
    let kind : kind_of (table_view (get_or c.args.tables.now c.loop-k.k
    c.index-tables-k.result).now)
    ≡ Some c.in_ok-name.field-0.kind =
    subst (λ (t : Bor (BTreeMap (String Global) Value)).
    kind_of (table_view t.now) ≡ Some c.in_ok-name.field-0.kind) c.index-tables-k.is next.kind_said
    in
    let there : IsClassOf
    (table_view (get_or c.args.tables.now c.loop-k.k c.index-tables-k.result).now) added =
    subst (λ (t : Bor (BTreeMap (String Global) Value)). IsClassOf (table_view t.now) added)
    c.index-tables-k.is (class_said _ _ _ added _ next) in
    let grown = c.in_ok-add.ensures in
    let kinds_grown = c.in_ok-push.ensures.ok in
    let rules_grown = c.in_ok-push-2.ensures.ok in
    let count : length c.add.new.classes ≡ length (c.loop-k.classes ++ added ∷ []) =
    ap length grown in
    let kinds_count : length c.push.new.self
    ≡ length (c.loop-k.kinds ++ c.in_ok-name.field-0.kind ∷ []) = ap length kinds_grown in
    let rules_count : length c.push-in-loop-k.new.self
    ≡ length (c.loop-k.rules ++ c.in_ok-name.field-0.parts.rules ∷ []) = ap length rules_grown in
    record {
      faults = class_turn (λ (t : Bor (BTreeMap (String Global) Value)). table_view t.now)
          c.args.tables.now c.loop-k.k c.index-tables-k.result c.loop-k.classes _
          c.loop-k-test.true c.loop-k.invariant.faults c.loop-k.invariant.made none;
      made = grown ∙ made_more class_of
          (λ (t : Bor (BTreeMap (String Global) Value)). table_view t.now) c.args.tables.now
          c.loop-k.k c.index-tables-k.result c.loop-k.classes added c.loop-k-test.true
          c.loop-k.invariant.made said;
      kinds_made = kinds_grown ∙ made_more kind_of
          (λ (t : Bor (BTreeMap (String Global) Value)). table_view t.now) c.args.tables.now
          c.loop-k.k c.index-tables-k.result c.loop-k.kinds c.in_ok-name.field-0.kind
          c.loop-k-test.true
          c.loop-k.invariant.kinds_made kind;
      rules_made = surely_more (λ (t : Bor (BTreeMap (String Global) Value)). table_view t.now)
          c.args.tables.now c.loop-k.k c.index-tables-k.result c.index-tables-k.result
          c.loop-k-test.true c.index-tables-k.is c.loop-k.rules _ class_rules
          c.loop-k.invariant.rules_made
          (rules_grown ∙ ap (λ rs. c.loop-k.rules ++ rs ∷ [])
          (sym (rules_said _ _ _ added _ next)));
      all = omega (
        arith,
        count,
        length-append c.loop-k.classes (added ∷ []),
        c.loop-k.invariant.all,
      );
      kinds_all = omega (
        arith,
        kinds_count,
        length-append c.loop-k.kinds (c.in_ok-name.field-0.kind ∷ []),
        c.loop-k.invariant.kinds_all,
      );
      rules_all = omega (
        arith,
        rules_count,
        length-append c.loop-k.rules (c.in_ok-name.field-0.parts.rules ∷ []),
        c.loop-k.invariant.rules_all,
      );
      said = subst (λ cs. AllZip IsClassOf (map (λ (t : Bor (BTreeMap (String Global) Value)).
          table_view t.now) (take (c.loop-k.k + 1) c.args.tables.now)) cs) (sym grown)
          (zip_more IsClassOf (λ (t : Bor (BTreeMap (String Global) Value)). table_view t.now)
          c.args.tables.now c.loop-k.k c.index-tables-k.result c.loop-k.classes added
          c.loop-k-test.true c.loop-k.invariant.said there);
      kinds_said = subst (λ ks. AllZip IsKindOf (map (λ (t : Bor (BTreeMap (String Global)
          Value)). table_view t.now) (take (c.loop-k.k + 1) c.args.tables.now)) ks)
          (sym kinds_grown)
          (zip_more IsKindOf (λ (t : Bor (BTreeMap (String Global) Value)). table_view t.now)
          c.args.tables.now c.loop-k.k c.index-tables-k.result c.loop-k.kinds
          c.in_ok-name.field-0.kind
          c.loop-k-test.true c.loop-k.invariant.kinds_said kind);
      typed = subst (All HasTypes) (sym grown)
          (All-push HasTypes c.loop-k.classes added c.loop-k.invariant.typed
          next.parts.good.typed);
      good = subst (All AreRules) (sym rules_grown)
          (All-push AreRules c.loop-k.rules c.in_ok-name.field-0.parts.rules c.loop-k.invariant.good
          next.parts.good.are_rules);
    }
