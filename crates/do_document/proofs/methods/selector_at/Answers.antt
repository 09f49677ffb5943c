use Rattle.do_document.proofs.methods.selector_at.Goals as goal
use Rattle.std.proofs.{Common.{arith, ◌≡◌, false, true}, lemmas.Grind.common_steps}
use Rattle.std.proofs.lemmas.Result.{err_from_is_err_and}
use Rattle.do_document.specs.ClassFaults.{is_new_selector}
use Rattle.do_document.proofs.Texts.{text_failed, text_missing, text_passed}

pub returns-in_err-selector : goal.returns-in_err-selector
returns-in_err-selector c =
    let p = err_from_is_err_and c.from_residual.result c.from_residual.ensures.1 in
    rw (p.1, p.2) (text_missing _ _ (is_new_selector c.args.methods.now) _
    c.in_err-selector.field-0.0 c.in_err-selector.ensures)

pub returns-then-not-is_new : goal.returns-then-not-is_new
returns-then-not-is_new c =
    let fails : is_new_selector c.args.methods.now c.in_ok-selector.selector ≡ false =
    grind (arith, common_steps, c.if-not-is_new.true, c.is_new.ensures, c.as_slice.ensures) in
    text_failed _ _ (is_new_selector c.args.methods.now) _ c.in_ok-selector.selector
    c.in_ok-selector.ensures.1 _ fails c.wrong.ensures

pub returns : goal.returns
returns c =
    let passes : is_new_selector c.args.methods.now c.in_ok-selector.selector ≡ true =
    grind (arith, common_steps, c.if-not-is_new.false, c.is_new.ensures, c.as_slice.ensures) in
    let none =
    text_passed _ _ (is_new_selector c.args.methods.now) _ c.in_ok-selector.selector
    c.in_ok-selector.ensures.1 passes in
    (none, (c.in_ok-selector.ensures.1, passes))
