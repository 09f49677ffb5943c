-- What the next class of a document says of its table.
use Rattle.std.{proofs.Common.{◌≡◌, ◌∙◌, ap, sym, List, []}, specs.Option.option_map_or}
use Rattle.toml.specs.Data.{Members}
use Rattle.do_native_acts.specs.laws.KindLaws.{some_same}
use Rattle.do_check.specs.declared.rules.Rule.{Rule}
use Rattle.do_class.specs.Class.{Class}
use Rattle.do_class_kinds.specs.declared.kind.Kind.{Kind}
use Rattle.do_document.specs.{Classes.{class_rules, rules_by}, Sound.{IsClassOf, IsNextClass}}

module _ (classes : List Class) (t : Members) (kind : Kind) (c : Class) (rules : List Rule)
    (next : IsNextClass classes t kind c rules) where
  -- it is the class of the table
  pub class_said : IsClassOf t c
  class_said = record {
    said = next.said;
    all = λ is. next.parts.all (some_same (sym next.kind_said ∙ is));
  }

  -- its rules are those of the table
  pub rules_said : class_rules t ≡ rules
  rules_said =
      ap (λ o. option_map_or (λ k. rules_by k t) o []) next.kind_said ∙ sym next.parts.rules_said
