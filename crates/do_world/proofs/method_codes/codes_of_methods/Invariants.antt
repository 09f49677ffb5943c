use Rattle.do_world.proofs.method_codes.codes_of_methods.Given as goal
use Rattle.std.{proofs.Common.{◌≡◌, drop, length, map, take}, specs.List.{All, filter_map}}
use Rattle.toml.specs.View.{table_view}
use Rattle.do_behave.specs.Programs.{Suits}
use Rattle.do_document.specs.Checks.{first_among, first_behind}
use Rattle.do_world.specs.{Faults.method_code_fault, Worlds.method_code}

abbrev pub invariant-loop-j : goal.invariant-loop-j
invariant-loop-j l = record {
  faults : first_behind (method_code_fault l.k l.slots l.classes)
      (map (λ t. table_view t.now) (take l.j l.tables))
      (map (λ t. table_view t.now) (drop l.j l.tables))
      ≡ first_among (method_code_fault l.k l.slots l.classes)
      (map (λ t. table_view t.now) l.tables);
  made : l.codes ≡ filter_map (method_code l.slots l.classes)
      (map (λ t. table_view t.now) (take l.j l.tables));
  all : length l.codes ≡ l.j;
  suit : All (Suits (length l.slots) (length l.classes)) l.codes;
}
