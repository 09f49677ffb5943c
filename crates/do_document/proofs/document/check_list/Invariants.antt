use Rattle.do_document.proofs.document.check_list.Given as goal
use Rattle.std.proofs.Common.{◌≡◌, drop, map, take}
use Rattle.toml.specs.View.{view}
use Rattle.do_document.specs.{Checks.{first_among, first_behind, member_fault}, Paths.path}

abbrev pub invariant-loop-k : goal.invariant-loop-k
invariant-loop-k l =
    first_behind (member_fault (path l.place l.key) l.kind) (map view (take l.k l.list))
    (map view (drop l.k l.list))
    ≡ first_among (member_fault (path l.place l.key) l.kind) (map view l.list)
