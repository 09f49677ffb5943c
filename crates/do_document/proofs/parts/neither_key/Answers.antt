use Rattle.do_document.proofs.parts.neither_key.Goals as goal
use Rattle.std.proofs.lemmas.Result.{err_from_is_err_and}
use Rattle.toml.specs.View.{table_view}
use Rattle.do_document.proofs.PartSteps.{neither_first, neither_found}

pub returns-in_err-no_key : goal.returns-in_err-no_key
returns-in_err-no_key c =
    let p = err_from_is_err_and c.from_residual.result
    c.from_residual.ensures.1 in
    rw (p.1, p.2) (neither_first _ _ _ _ c.in_err-no_key.field-0.0 c.in_err-no_key.ensures)

pub returns : goal.returns
returns c =
    neither_found c.args.place c.args.one.now c.args.other.now (table_view c.args.table.now)
    c.no_key-2.result
    c.in_ok-no_key.ensures.0 c.no_key-2.ensures
