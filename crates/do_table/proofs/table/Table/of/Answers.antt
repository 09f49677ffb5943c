use Rattle.do_table.proofs.table.Table.of.Goals as goal
use Rattle.std.proofs.Common.{◌≡◌, Some, true, false, not, is_some, length, map, ap, add-one, refl}
use Rattle.std.{proofs.Common.{◌∙◌, arith}, specs.{Prelude.slice_get, Option.option_map}}
use Rattle.std.proofs.lemmas.{Grind.common_steps, Option.{slice_get_read, slice_get-map}}
use Rattle.do_table.specs.Entries.{value_of, added, are_distinct}
use Rattle.do_table.specs.laws.TableLaws.{entry_added, entry_refused}

pub returns-then-not-branch : goal.returns-then-not-branch
returns-then-not-branch g c =
    let rows = c.args.rows.now in
    let entry = g.E.Entry.entry in
    let e = entry c.row-item.result in
    let found : slice_get (map entry rows) c.loop-row.row-index ≡ Some e =
    slice_get-map entry rows c.loop-row.row-index
    ∙ ap (option_map entry) (slice_get_read rows (length rows) c.loop-row.row-index
    c.row-item.result refl c.loop-row-test.true c.row-item.is) in
    let known : not (is_some (value_of c.loop-row.table e.0)) ≡ false =
    grind (arith, common_steps) in
    let twice : are_distinct (map entry rows) ≡ false =
    entry_refused (map entry rows) c.loop-row.table c.loop-row.row-index e found
    c.loop-row.invariant.0 known in
    grind (arith, common_steps, twice)

pub loop-row-preserved : goal.loop-row-preserved
loop-row-preserved g c =
    let rows = c.args.rows.now in
    let entry = g.E.Entry.entry in
    let e = entry c.row-item.result in
    let found : slice_get (map entry rows) c.loop-row.row-index ≡ Some e =
    slice_get-map entry rows c.loop-row.row-index
    ∙ ap (option_map entry) (slice_get_read rows (length rows) c.loop-row.row-index
    c.row-item.result refl c.loop-row-test.true c.row-item.is) in
    let fresh : not (is_some (value_of c.loop-row.table e.0)) ≡ true =
    grind (arith, common_steps) in
    let longer : c.add.new.self ≡ added c.loop-row.table e.0 e.1 =
    grind (arith, common_steps) in
    rw add-one (entry_added (map entry rows) c.loop-row.table c.add.new.self c.loop-row.row-index e
    found c.loop-row.invariant.0 c.loop-row.invariant.1 fresh longer)
