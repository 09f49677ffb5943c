use Rattle.do_document.proofs.document.text_required.Goals as goal
use Rattle.std.proofs.{Common.{◌≡◌, arith}, lemmas.{Grind.common_steps, Result.err_from_is_err_and}}
use Rattle.toml.specs.View.{view}
use Rattle.do_document.proofs.Finding.{text_there}
use Rattle.do_document.proofs.InOrder.{required_absent, required_not_text, required_text}

pub returns-in_err-value : goal.returns-in_err-value
returns-in_err-value c =
    let p = err_from_is_err_and c.from_residual.result c.from_residual.ensures.1 in
    rw (p.1, p.2) (required_absent _ _ _ _ c.in_err-value.field-0.0 c.in_err-value.ensures)

pub returns-in_err-text : goal.returns-in_err-text
returns-in_err-text c =
    let p = err_from_is_err_and c.from_residual-in_err-text.result
    c.from_residual-in_err-text.ensures.1 in
    rw (p.1, p.2) (required_not_text _ _ _ (view c.in_ok-value.value.now)
    c.in_err-text.field-0.0 c.in_ok-value.ensures.1 c.in_err-text.ensures.0 c.in_err-text.ensures.1)

pub returns : goal.returns
returns c =
    let same : c.in_ok-copy.copy ≡ c.in_ok-text.text.now =
    grind (arith, common_steps, c.as_bytes.ensures.value, c.in_ok-copy.ensures) in (
      required_text _ _ _ (view c.in_ok-value.value.now) c.in_ok-text.text.now
          c.in_ok-value.ensures.1 c.in_ok-text.ensures,
      rw same (text_there _ _ (view c.in_ok-value.value.now) c.in_ok-text.text.now
          c.in_ok-value.ensures.1 c.in_ok-text.ensures),
    )
