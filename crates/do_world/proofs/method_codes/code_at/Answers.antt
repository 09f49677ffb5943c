use Rattle.do_world.proofs.method_codes.code_at.Goals as goal
use Rattle.std.proofs.{Common.rules, lemmas.Result.err_from_is_err_and}
use Rattle.toml.specs.View.{table_view}
use Rattle.do_world.proofs.CodeSteps.{code_first, code_read, code_refused, suits}

pub returns-in_err-text : goal.returns-in_err-text
returns-in_err-text c =
    let p = err_from_is_err_and c.from_residual.result c.from_residual.ensures.1 in
    rw (p.1, p.2) (code_first _ _ _ _ c.in_err-text.field-0.0 c.in_err-text.ensures)

pub returns-in-Ok : goal.returns-in-Ok
returns-in-Ok c =
    let made = rw c.as_bytes.ensures.value at c.in-Ok.ensures.code in
    let read =
    code_read c.args.place c.args.slots.now c.args.classes.now (table_view c.args.table.now)
    c.in_ok-text.text.now c.in-Ok.code c.in_ok-text.ensures.0 c.in_ok-text.ensures.1 made in (
      read.0,
      (
        read.1,
        suits c.args.slots.now c.args.classes.now c.in_ok-text.text.now c.in-Ok.code
            made (search rules),
      ),
    )

pub returns-in-Err : goal.returns-in-Err
returns-in-Err c =
    code_refused c.args.place c.args.slots.now c.args.classes.now (table_view c.args.table.now)
    c.in_ok-text.text.now c.in-Err.fault _ c.in_ok-text.ensures.0 c.in_ok-text.ensures.1
    (rw c.as_bytes.ensures.value at c.in-Err.ensures.fault) c.refusal.ensures
