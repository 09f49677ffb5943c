use Rattle.do_world.proofs.seats.root_at.Goals as goal
use Rattle.std.proofs.{Common.{◌≡◌, Some, None, arith, false, true}, lemmas.Grind.common_steps}
use Rattle.std.{proofs.lemmas.Result.err_from_is_err_and, specs.Prelude.codes}
use Rattle.toml.specs.View.{table_view, view}
use Rattle.do_class.specs.Table.{class_named}
use Rattle.do_document.proofs.{Finding.text_there, InOrder.{required_absent, required_failed}}
use Rattle.do_document.proofs.InOrder.{required_no_text, required_passed}
use Rattle.do_world.specs.Faults.{is_class}

pub returns-in_err-value : goal.returns-in_err-value
returns-in_err-value c =
    let p = err_from_is_err_and c.from_residual.result c.from_residual.ensures.1 in
    rw (p.1, p.2) (required_absent _ _ _ _ c.in_err-value.field-0.0 c.in_err-value.ensures)

pub returns-in_err-text : goal.returns-in_err-text
returns-in_err-text c =
    let p = err_from_is_err_and c.from_residual-in_err-text.result
    c.from_residual-in_err-text.ensures.1 in
    rw (p.1, p.2) (required_no_text _ _ _ _ (view c.in_ok-value.value.now)
    c.in_err-text.field-0.0 c.in_ok-value.ensures.1 c.in_err-text.ensures.0 c.in_err-text.ensures.1)

pub returns-in-Some : goal.returns-in-Some
returns-in-Some c =
    let named : class_named c.args.classes.now c.in_ok-text.text.now ≡ Some c.in-Some.class =
    grind (
      arith,
      common_steps,
      c.in-Some.ensures.value,
      c.as_bytes.ensures.value,
      c.in_ok-name.ensures,
    ) in
    let passes : is_class c.args.classes.now c.in_ok-text.text.now ≡ true = rw named in
    let none =
    required_passed _ _ (is_class c.args.classes.now) _ (view c.in_ok-value.value.now)
    c.in_ok-text.text.now c.in_ok-value.ensures.1 c.in_ok-text.ensures passes in
    let text =
    text_there (codes "root") (table_view c.args.table.now) (view c.in_ok-value.value.now)
    c.in_ok-text.text.now c.in_ok-value.ensures.1 c.in_ok-text.ensures in
    (none, (rw (text, named), c.in-Some.ensures.known))

pub returns : goal.returns
returns c =
    let named : class_named c.args.classes.now c.in_ok-text.text.now ≡ None =
    grind (
      arith,
      common_steps,
      c.in-None.ensures.value,
      c.as_bytes.ensures.value,
      c.in_ok-name.ensures,
    ) in
    let fails : is_class c.args.classes.now c.in_ok-text.text.now ≡ false = rw named in
    required_failed _ _ (is_class c.args.classes.now) _ (view c.in_ok-value.value.now)
    c.in_ok-text.text.now _ c.in_ok-value.ensures.1 c.in_ok-text.ensures fails c.wrong.ensures
