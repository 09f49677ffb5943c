use Rattle.do_document.proofs.entries.rule_text.Goals as goal
use Rattle.std.proofs.{Common.{arith, ◌≡◌, false, true}, lemmas.Grind.common_steps}
use Rattle.std.proofs.lemmas.Result.{err_from_is_err_and}
use Rattle.do_document.{specs.ClassFaults.is_rule, proofs.EntrySteps.within_rule}
use Rattle.do_document.proofs.Texts.{text_failed, text_missing, text_passed}

pub returns-in_err-text : goal.returns-in_err-text
returns-in_err-text c =
    let p = err_from_is_err_and c.from_residual.result c.from_residual.ensures.1 in
    rw (p.1, p.2) (text_missing _ _ is_rule _ c.in_err-text.field-0.0 c.in_err-text.ensures)

pub returns-then-not-is_rule : goal.returns-then-not-is_rule
returns-then-not-is_rule c =
    let fails : is_rule c.in_ok-text.text ≡ false =
    grind (arith, common_steps, c.if-not-is_rule.true, c.is_rule.ensures) in
    text_failed _ _ is_rule _ c.in_ok-text.text c.in_ok-text.ensures.1 _ fails c.wrong.ensures

pub returns : goal.returns
returns c =
    let passes : is_rule c.in_ok-text.text ≡ true =
    grind (arith, common_steps, c.if-not-is_rule.false, c.is_rule.ensures) in
    let none = text_passed _ _ is_rule _ c.in_ok-text.text c.in_ok-text.ensures.1 passes in
    (none, (c.in_ok-text.ensures.1, within_rule c.in_ok-text.text passes))
