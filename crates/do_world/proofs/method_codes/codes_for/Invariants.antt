use Rattle.do_world.proofs.method_codes.codes_for.Given as goal
use Rattle.std.{proofs.Common.{◌≡◌, drop, length, map, take}, specs.List.AllZip}
use Rattle.toml.specs.View.{table_view}
use Rattle.do_behave.specs.Programs.{HasCodes}
use Rattle.do_class.specs.Table.{names_of}
use Rattle.do_document.specs.Checks.{first_among, first_behind}
use Rattle.do_world.specs.{Faults.codes_fault, Worlds.codes_of}

abbrev pub invariant-loop-k : goal.invariant-loop-k
invariant-loop-k l = record {
  faults : first_behind (codes_fault (names_of l.classes))
      (map (λ t. table_view t.now) (take l.k l.tables))
      (map (λ t. table_view t.now) (drop l.k l.tables))
      ≡ first_among (codes_fault (names_of l.classes)) (map (λ t. table_view t.now) l.tables);
  made : l.codes ≡ map (codes_of (names_of l.classes))
      (map (λ t. table_view t.now) (take l.k l.tables));
  suit : AllZip (HasCodes (length l.classes)) l.codes (take l.k l.classes);
}
