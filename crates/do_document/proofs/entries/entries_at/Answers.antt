use Rattle.do_document.proofs.entries.entries_at.Goals as goal
use Rattle.std.proofs.{lemmas.Result.err_from_is_err_and, Common.{◌≡◌, ◌∙◌, ◌≤◌, ◌-◌, Bor}}
use Rattle.std.proofs.Common.{BTreeMap, Global, String, length, arith, ap, map, subst}
use Rattle.toml.specs.{View.table_view, declared.value.Value.Value}
use Rattle.do_document.specs.{Checks.first_among, ClassFaults.entry_fault, Document.tables_at}
use Rattle.do_document.specs.{Finding.Finds, Lists.key_of, Sound.AreMore}
use Rattle.do_document.specs.declared.entries.Listed.{Listed}
use Rattle.do_document.proofs.Loops.{entries_listed, entries_read, tables_few}

pub returns-in_err-check_list : goal.returns-in_err-check_list
returns-in_err-check_list c =
    let p = err_from_is_err_and c.from_residual.result
    c.from_residual.ensures.1 in
    rw (p.1, p.2) (entries_listed _ _ _ _ c.in_err-check_list.field-0.0
    (rw (c.key.ensures, c.len-room.ensures) at c.in_err-check_list.ensures))

pub entries_of-requires-clause-room : goal.entries_of-requires-clause-room
entries_of-requires-clause-room c =
    let few : length c.as_slice.result.now ≤ 64 - length c.args.earlier.methods =
    rw c.as_slice.ensures.value (tables_few (key_of c.args.list) (table_view c.args.table.now)
    (λ (t : Bor (BTreeMap (String Global) Value)). table_view t.now) c.in_ok-tables.tables.items
    (64 - length c.args.earlier.methods)
    (rw (c.key.ensures, c.len-room.ensures) at c.in_ok-check_list.ensures.1)
    (rw c.key-2.ensures at c.in_ok-tables.ensures)) in
    omega (arith, few, c.requires.are_methods.few)

pub returns : goal.returns
returns c =
    let same : map (λ (t : Bor (BTreeMap (String Global) Value)). table_view t.now)
    c.as_slice.result.now ≡ tables_at (key_of c.args.list) (table_view c.args.table.now) =
    ap (map (λ (t : Bor (BTreeMap (String Global) Value)). table_view t.now))
    c.as_slice.ensures.value ∙ (rw c.key-2.ensures at c.in_ok-tables.ensures) in
    entries_read c.args.list c.args.earlier.methods c.args.class (table_view c.args.table.now)
    (λ (now : Listed). AreMore c.args.list c.args.earlier.methods now.methods c.args.earlier.rules
    now.rules (tables_at (key_of c.args.list) (table_view c.args.table.now))) c.entries_of.result
    (rw (c.key.ensures, c.len-room.ensures) at c.in_ok-check_list.ensures.0)
    (subst (λ ts.
    Finds (first_among (entry_fault c.args.list c.args.class c.args.earlier.methods) ts)
    (λ (now : Listed). AreMore c.args.list c.args.earlier.methods now.methods c.args.earlier.rules
    now.rules ts) c.entries_of.result) same c.entries_of.ensures)
