use Rattle.do_document.proofs.entries.entries_of.Given as goal
use Rattle.std.{proofs.Common.{◌≡◌, ◌+◌, ◌++◌, drop, length, map, take}, specs.List.filter_map}
use Rattle.toml.specs.View.{table_view}
use Rattle.do_document.specs.{Checks.{first_among, first_behind}, ClassFaults.entry_fault}
use Rattle.do_document.specs.{Classes.{method_of, rule_of}, Sound.AreGood}

abbrev pub invariant-loop-k : goal.invariant-loop-k
invariant-loop-k l = record {
  faults : first_behind (entry_fault l.list l.class l.fn.earlier.methods)
      (map (λ t. table_view t.now) (take l.k l.tables))
      (map (λ t. table_view t.now) (drop l.k l.tables))
      ≡ first_among (entry_fault l.list l.class l.fn.earlier.methods)
      (map (λ t. table_view t.now) l.tables);
  methods_said : l.methods
      ≡ l.fn.earlier.methods ++ filter_map method_of (map (λ t. table_view t.now) (take l.k
      l.tables));
  rules_said : l.rules
      ≡ l.fn.earlier.rules
      ++ filter_map (rule_of l.list) (map (λ t. table_view t.now) (take l.k l.tables));
  all : length l.methods ≡ length l.fn.earlier.methods + l.k;
  good : AreGood l.methods l.rules;
}
