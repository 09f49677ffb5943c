use Rattle.do_world.proofs.reader.check_top.Goals as goal
use Rattle.std.proofs.lemmas.Result.{err_from_is_err_and}
use Rattle.do_world.proofs.TopSteps.{top_checked, top_classes, top_unknown, top_version}

pub returns-in_err-known_keys : goal.returns-in_err-known_keys
returns-in_err-known_keys c =
    let p = err_from_is_err_and c.from_residual.result c.from_residual.ensures.1 in
    rw (p.1, p.2) (top_unknown _ c.in_err-known_keys.field-0.0 c.in_err-known_keys.ensures)

pub returns-in_err-check_version : goal.returns-in_err-check_version
returns-in_err-check_version c =
    let p = err_from_is_err_and c.from_residual-in_err-check_version.result
    c.from_residual-in_err-check_version.ensures.1 in
    rw (p.1, p.2) (top_version _ c.in_err-check_version.field-0.0 c.in_ok-known_keys.ensures.0
    c.in_err-check_version.ensures)

pub returns-in_err-check_tables : goal.returns-in_err-check_tables
returns-in_err-check_tables c =
    let p = err_from_is_err_and c.from_residual-in_err-check_tables.result
    c.from_residual-in_err-check_tables.ensures.1 in
    rw (p.1, p.2) (top_classes _ c.in_err-check_tables.field-0.0 c.in_ok-known_keys.ensures.0
    c.in_ok-check_version.ensures.0 c.in_err-check_tables.ensures)

pub returns : goal.returns
returns c =
    top_checked _ c.check_tables-2.result c.in_ok-known_keys.ensures.0
    c.in_ok-check_version.ensures.0 c.in_ok-check_tables.ensures c.check_tables-2.ensures
