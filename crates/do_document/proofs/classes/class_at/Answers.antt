use Rattle.do_document.proofs.classes.class_at.Goals as goal
use Rattle.std.proofs.{Common.{◌≡◌, Some}, lemmas.{Bool.and_parts, Result.err_from_is_err_and}}
use Rattle.std.specs.Prelude.{is_some, not}
use Rattle.toml.specs.View.{table_view}
use Rattle.do_grammar.specs.Names.{is_name}
use Rattle.do_class.specs.Table.{class_named}
use Rattle.do_document.{specs.Classes.class_of, proofs.Answering.{class_good, class_kind}}
use Rattle.do_document.proofs.{Answering.{class_name, class_parts, class_unknown}, Growing.not_true}

pub returns-in_err-known_keys : goal.returns-in_err-known_keys
returns-in_err-known_keys c =
    let p = err_from_is_err_and c.from_residual.result
    c.from_residual.ensures.1 in
    rw (p.1, p.2) (class_unknown _ _ _ c.in_err-known_keys.field-0.0 c.in_err-known_keys.ensures)

pub returns-in_err-name : goal.returns-in_err-name
returns-in_err-name c =
    let p = err_from_is_err_and c.from_residual-in_err-name.result
    c.from_residual-in_err-name.ensures.1 in
    rw (p.1, p.2) (class_name _ _ _ c.in_err-name.field-0.0 c.in_ok-known_keys.ensures.0
    c.in_err-name.ensures)

pub returns-in_err-kind : goal.returns-in_err-kind
returns-in_err-kind c =
    let p = err_from_is_err_and c.from_residual-in_err-kind.result
    c.from_residual-in_err-kind.ensures.1 in
    rw (p.1, p.2) (class_kind _ _ _ c.in_err-kind.field-0.0 c.in_ok-known_keys.ensures.0
    c.in_ok-name.ensures.0 c.in_err-kind.ensures)

pub returns-in_err-parts : goal.returns-in_err-parts
returns-in_err-parts c =
    let p = err_from_is_err_and c.from_residual-in_err-parts.result
    c.from_residual-in_err-parts.ensures.1 in
    rw (p.1, p.2) (class_parts _ _ _ c.in_ok-kind.kind c.in_err-parts.field-0.0
    c.in_ok-known_keys.ensures.0 c.in_ok-name.ensures.0 c.in_ok-kind.ensures.0
    c.in_ok-kind.ensures.1 c.in_err-parts.ensures)

pub returns : goal.returns
returns c =
    let none =
    class_good _ _ _ c.in_ok-kind.kind c.in_ok-known_keys.ensures.0 c.in_ok-name.ensures.0
    c.in_ok-kind.ensures.0 c.in_ok-kind.ensures.1 c.in_ok-parts.ensures.0 in
    let said : class_of (table_view c.args.table.now) ≡ Some (record {
      name = c.in_ok-name.name;
      slots = c.in_ok-parts.parts.slots;
      methods = c.in_ok-parts.parts.methods;
    }) =
    rw (
      c.in_ok-kind.ensures.1,
      c.in_ok-name.ensures.1.0,
      c.in_ok-parts.ensures.1.slots_said,
      c.in_ok-parts.ensures.1.methods_said,
    ) in
    let parts = and_parts (is_name c.in_ok-name.name)
    (not (is_some (class_named c.args.classes.now c.in_ok-name.name))) c.in_ok-name.ensures.1.1 in (
      none,
      record {
        kind_said = c.in_ok-kind.ensures.1;
        said = said;
        new = not_true (is_some (class_named c.args.classes.now c.in_ok-name.name)) parts.1;
        parts = c.in_ok-parts.ensures.1;
      },
    )
