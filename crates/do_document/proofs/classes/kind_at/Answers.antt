use Rattle.do_document.proofs.classes.kind_at.Goals as goal
use Rattle.std.proofs.{Common.{◌≡◌, Some, None, arith}, lemmas.Grind.common_steps}
use Rattle.std.{proofs.lemmas.Result.err_from_is_err_and, specs.Prelude.codes}
use Rattle.toml.specs.{Data.get_member, View.{table_view, view}}
use Rattle.do_class_kinds.specs.Kinds.{kind_named}
use Rattle.do_document.proofs.KindSteps.{kind_absent, kind_no_text, kind_there, kind_unknown}

-- a class that names no kind is one of scripts
pub returns-in_default : goal.returns-in_default
returns-in_default c =
    kind_absent _ _ (grind (arith, common_steps, c.value_at.ensures, c.in_default.ensures))

-- what stands at the key is no text
pub returns-in_err-text : goal.returns-in_err-text
returns-in_err-text c =
    let there : get_member (codes "native") (table_view c.args.table.now)
    ≡ Some (view c.in-Some.value.now) =
    grind (arith, common_steps, c.value_at.ensures, c.in-Some.ensures) in
    let p = err_from_is_err_and c.from_residual.result c.from_residual.ensures.1 in
    rw (p.1, p.2) (kind_no_text _ _ (view c.in-Some.value.now) c.in_err-text.field-0.0 there
    c.in_err-text.ensures.0 c.in_err-text.ensures.1)

-- the text names a kind
pub returns-in-Some-kind_named : goal.returns-in-Some-kind_named
returns-in-Some-kind_named c =
    let there : get_member (codes "native") (table_view c.args.table.now)
    ≡ Some (view c.in-Some.value.now) =
    grind (arith, common_steps, c.value_at.ensures, c.in-Some.ensures) in
    let named : kind_named c.in_ok-text.text.now ≡ Some c.in-Some-kind_named.kind =
    grind (
      arith,
      common_steps,
      c.kind_named.ensures,
      c.as_bytes.ensures.value,
      c.in-Some-kind_named.is,
    ) in
    kind_there _ _ (view c.in-Some.value.now) c.in_ok-text.text.now c.in-Some-kind_named.kind there
    c.in_ok-text.ensures named

-- the text names none
pub returns-in-None : goal.returns-in-None
returns-in-None c =
    let there : get_member (codes "native") (table_view c.args.table.now)
    ≡ Some (view c.in-Some.value.now) =
    grind (arith, common_steps, c.value_at.ensures, c.in-Some.ensures) in
    let none : kind_named c.in_ok-text.text.now ≡ None =
    grind (arith, common_steps, c.kind_named.ensures, c.as_bytes.ensures.value, c.in-None.is) in
    kind_unknown _ _ (view c.in-Some.value.now) c.in_ok-text.text.now _ there c.in_ok-text.ensures
    none c.wrong.ensures
