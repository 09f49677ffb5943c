use Rattle.do_document.proofs.document.tables_at.Given as goal
use Rattle.std.{proofs.Common.{◌≡◌, map, take}, specs.List.filter_map}
use Rattle.toml.specs.{Data.as_table, View.{table_view, view}}

abbrev pub invariant-loop-member : goal.invariant-loop-member
invariant-loop-member l =
    map (λ t. table_view t.now) l.tables.items
    ≡ filter_map as_table (map view (take l.member-index l.members))
