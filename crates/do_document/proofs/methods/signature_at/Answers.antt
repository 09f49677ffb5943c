use Rattle.do_document.proofs.methods.signature_at.Goals as goal
use Rattle.std.proofs.{Common.{◌≡◌, Ok, arith, rules}, lemmas.Grind.common_steps}
use Rattle.std.{proofs.lemmas.Result.err_from_is_err_and, specs.Prelude.codes}
use Rattle.toml.specs.View.{table_view, view}
use Rattle.do_sig.specs.{Answers.answer_of, reading.Signatures.signature_at}
use Rattle.do_document.proofs.{Answering.types_told, Finding.text_there, InOrder.required_absent}
use Rattle.do_document.proofs.InOrder.{required_not_text, required_text, types_first, types_read}

pub returns-in_err-value : goal.returns-in_err-value
returns-in_err-value c =
    let p = err_from_is_err_and c.from_residual.result c.from_residual.ensures.1 in
    rw (p.1, p.2) (types_first _ _ c.in_err-value.field-0.0
    (required_absent _ _ _ _ c.in_err-value.field-0.0 c.in_err-value.ensures))

pub returns-in_err-types : goal.returns-in_err-types
returns-in_err-types c =
    let p = err_from_is_err_and c.from_residual-in_err-types.result
    c.from_residual-in_err-types.ensures.1 in
    rw (p.1, p.2) (types_first _ _ c.in_err-types.field-0.0
    (required_not_text _ _ _ (view c.in_ok-value.value.now) c.in_err-types.field-0.0
    c.in_ok-value.ensures.1 c.in_err-types.ensures.0 c.in_err-types.ensures.1))

pub returns-in-Ok : goal.returns-in-Ok
returns-in-Ok c =
    let there =
    required_text c.args.place (codes "types") (table_view c.args.table.now)
    (view c.in_ok-value.value.now) c.in_ok-types.types.now c.in_ok-value.ensures.1
    c.in_ok-types.ensures in
    let text =
    text_there (codes "types") (table_view c.args.table.now) (view c.in_ok-value.value.now)
    c.in_ok-types.types.now c.in_ok-value.ensures.1 c.in_ok-types.ensures in
    let reads : answer_of c.in_ok-types.types.now (signature_at c.in_ok-types.types.now)
    ≡ Ok c.in-Ok.signature =
    grind (arith, common_steps, c.in-Ok.ensures.first, c.as_bytes.ensures.value) in
    let read =
    types_read c.args.place (table_view c.args.table.now) c.in_ok-types.types.now c.in-Ok.signature
    there text reads in
    (read.0, (read.1, search rules))

pub returns-in-Err : goal.returns-in-Err
returns-in-Err c =
    let there =
    required_text c.args.place (codes "types") (table_view c.args.table.now)
    (view c.in_ok-value.value.now) c.in_ok-types.types.now c.in_ok-value.ensures.1
    c.in_ok-types.ensures in
    let text =
    text_there (codes "types") (table_view c.args.table.now) (view c.in_ok-value.value.now)
    c.in_ok-types.types.now c.in_ok-value.ensures.1 c.in_ok-types.ensures in
    types_told c.args.place (table_view c.args.table.now) c.in_ok-types.types.now c.in-Err.fault _
    there text (rw c.as_bytes.ensures.value at c.in-Err.ensures.first) c.refusal.ensures
