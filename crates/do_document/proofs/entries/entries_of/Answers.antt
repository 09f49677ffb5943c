use Rattle.do_document.proofs.entries.entries_of.Goals as goal
use Rattle.std.proofs.Common.{◌≡◌, ◌∙◌, ◌<◌, ◌++◌, ◌∷◌, [], None, Bor, BTreeMap, Global, String, ap}
use Rattle.std.proofs.Common.{arith, get_or, length, length-append, subst, sym}
use Rattle.std.{specs.Option.option_to_list, proofs.lemmas.List.Elements.All-push}
use Rattle.toml.specs.{View.table_view, declared.value.Value.Value}
use Rattle.do_sig.specs.MethodTypes.{IsMethodType}
use Rattle.do_class.specs.{Class.AreMethods, declared.method.Method.Method}
use Rattle.do_check.specs.Rules.{AreRules}
use Rattle.do_class_kinds.specs.Methods.{AreTyped}
use Rattle.do_document.specs.{ClassFaults.entry_checks, Classes.{method_of, rule_of}}
use Rattle.do_document.{specs.Lists.place_of, proofs.EntrySteps.rules_more}
use Rattle.do_document.proofs.{Growing.{behind_more, methods_more}, Loops.entry_turn}

pub loop-k-preserved : goal.loop-k-preserved
loop-k-preserved c =
    let next = c.in_ok-method.ensures.1.0 in
    let rule = c.in_ok-method.ensures.1.1 in
    let none : entry_checks c.args.list (place_of c.args.list c.args.class c.loop-k.k)
    c.loop-k.methods (table_view (get_or c.args.tables.now c.loop-k.k
    c.index-tables-k.result).now) ≡ None =
    subst (λ (t : Bor (BTreeMap (String Global) Value)).
    entry_checks c.args.list (place_of c.args.list c.args.class c.loop-k.k) c.loop-k.methods
    (table_view t.now) ≡ None) c.index-tables-k.is
    (rw c.place-place.ensures at c.in_ok-method.ensures.0) in
    let grown = c.in_ok-push.ensures.ok in
    let count : length c.push.new.self ≡ length (c.loop-k.methods ++ c.in_ok-method.field-0.method ∷
    []) =
    ap length grown in
    let room : length c.loop-k.methods < 64 =
    omega (arith, c.loop-k.invariant.all, c.loop-k-test.true, c.requires.room) in
    let good = c.loop-k.invariant.good in
    record {
      faults = entry_turn c.args.list c.args.class c.args.earlier.methods
          (λ (t : Bor (BTreeMap (String Global) Value)). table_view t.now) c.args.tables.now
          c.loop-k.k c.index-tables-k.result c.loop-k.methods _ c.loop-k-test.true
          c.loop-k.invariant.faults c.loop-k.invariant.methods_said none;
      methods_said = behind_more method_of
          (λ (t : Bor (BTreeMap (String Global) Value)). table_view t.now) c.args.tables.now
          c.loop-k.k c.index-tables-k.result c.args.earlier.methods c.loop-k.methods _
          c.loop-k-test.true c.index-tables-k.is c.loop-k.invariant.methods_said
          (grown ∙ ap (λ o. c.loop-k.methods ++ option_to_list o) (sym next.said));
      rules_said = behind_more (rule_of c.args.list)
          (λ (t : Bor (BTreeMap (String Global) Value)). table_view t.now) c.args.tables.now
          c.loop-k.k c.index-tables-k.result c.args.earlier.rules c.loop-k.rules _
          c.loop-k-test.true c.index-tables-k.is c.loop-k.invariant.rules_said
          (c.in_ok-push_rule.ensures
          ∙ ap (λ o. c.loop-k.rules ++ option_to_list o) (sym rule.said));
      all = omega (
        arith,
        count,
        length-append c.loop-k.methods (c.in_ok-method.field-0.method ∷ []),
        c.loop-k.invariant.all,
      );
      good = record {
        are_methods = subst AreMethods (sym grown)
            (methods_more c.loop-k.methods c.in_ok-method.field-0.method good.are_methods room
            next.new
            next.counted);
        typed = subst AreTyped (sym grown)
            (All-push (λ (m : Method). IsMethodType m.signature) c.loop-k.methods
            c.in_ok-method.field-0.method good.typed next.typed);
        are_rules = subst AreRules (sym c.in_ok-push_rule.ensures)
            (rules_more c.loop-k.rules c.in_ok-method.field-0.rule good.are_rules rule.good);
      };
    }
