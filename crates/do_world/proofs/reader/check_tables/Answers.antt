use Rattle.do_world.proofs.reader.check_tables.Goals as goal
use Rattle.std.proofs.lemmas.Result.{err_from_is_err_and}
use Rattle.toml.specs.View.{view}
use Rattle.do_world.proofs.TopLists.{tables_checked, tables_missing}

pub returns-in_err-required : goal.returns-in_err-required
returns-in_err-required c =
    let p = err_from_is_err_and c.from_residual.result c.from_residual.ensures.1 in
    rw (p.1, p.2) (tables_missing _ _ _ c.in_err-required.field-0.0 c.in_err-required.ensures)

pub returns : goal.returns
returns c =
    tables_checked _ _ _ (view c.in_ok-required.field-0.now) c.check_list.result
    c.in_ok-required.ensures.1 c.in_ok-required.ensures.0 c.check_list.ensures
