use Rattle.do_document.proofs.classes.classes_of.Given as goal
use Rattle.std.{proofs.Common.{◌≡◌, drop, length, map, take}, specs.List.{All, AllZip, filter_map}}
use Rattle.toml.specs.View.{table_view}
use Rattle.do_check.specs.Rules.{AreRules}
use Rattle.do_document.specs.{Checks.{first_among, first_behind}, ClassFaults.class_fault}
use Rattle.do_document.specs.Classes.{class_of, class_rules, kind_of}
use Rattle.do_document.specs.Sound.{HasTypes, IsClassOf, IsKindOf}

abbrev pub invariant-loop-k : goal.invariant-loop-k
invariant-loop-k l = record {
  faults : first_behind class_fault (map (λ t. table_view t.now) (take l.k l.tables))
      (map (λ t. table_view t.now) (drop l.k l.tables))
      ≡ first_among class_fault (map (λ t. table_view t.now) l.tables);
  made : l.classes ≡ filter_map class_of (map (λ t. table_view t.now) (take l.k l.tables));
  kinds_made : l.kinds ≡ filter_map kind_of (map (λ t. table_view t.now) (take l.k l.tables));
  rules_made : l.rules ≡ map class_rules (map (λ t. table_view t.now) (take l.k l.tables));
  all : length l.classes ≡ l.k;
  kinds_all : length l.kinds ≡ l.k;
  rules_all : length l.rules ≡ l.k;
  said : AllZip IsClassOf (map (λ t. table_view t.now) (take l.k l.tables)) l.classes;
  kinds_said : AllZip IsKindOf (map (λ t. table_view t.now) (take l.k l.tables)) l.kinds;
  typed : All HasTypes l.classes;
  good : All AreRules l.rules;
}
