use Rattle.do_document.proofs.classes.name_at.Goals as goal
use Rattle.std.proofs.{Common.{arith, ◌≡◌, false, true}, lemmas.Grind.common_steps}
use Rattle.std.proofs.lemmas.Result.{err_from_is_err_and}
use Rattle.do_document.specs.ClassFaults.{is_new_name}
use Rattle.do_document.proofs.Texts.{text_failed, text_missing, text_passed}

pub returns-in_err-name : goal.returns-in_err-name
returns-in_err-name c =
    let p = err_from_is_err_and c.from_residual.result c.from_residual.ensures.1 in
    rw (p.1, p.2) (text_missing _ _ (is_new_name c.args.classes.now) _ c.in_err-name.field-0.0
    c.in_err-name.ensures)

pub returns-then-not-is_new : goal.returns-then-not-is_new
returns-then-not-is_new c =
    let fails : is_new_name c.args.classes.now c.in_ok-name.name ≡ false =
    grind (arith, common_steps, c.if-not-is_new.true, c.is_new.ensures) in
    text_failed _ _ (is_new_name c.args.classes.now) _ c.in_ok-name.name c.in_ok-name.ensures.1 _
    fails c.wrong.ensures

pub returns : goal.returns
returns c =
    let passes : is_new_name c.args.classes.now c.in_ok-name.name ≡ true =
    grind (arith, common_steps, c.if-not-is_new.false, c.is_new.ensures) in
    let none =
    text_passed _ _ (is_new_name c.args.classes.now) _ c.in_ok-name.name c.in_ok-name.ensures.1
    passes in
    (none, (c.in_ok-name.ensures.1, passes))
