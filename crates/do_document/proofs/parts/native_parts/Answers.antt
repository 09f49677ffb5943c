use Rattle.do_document.proofs.parts.native_parts.Goals as goal
use Rattle.std.proofs.lemmas.Result.{err_from_is_err_and}
use Rattle.toml.specs.View.{table_view}
use Rattle.do_document.proofs.PartSteps.{native_good, native_own, native_parts, native_rules}
use Rattle.do_document.proofs.PartSteps.{ruleless_good}

pub returns-in_err-neither_key : goal.returns-in_err-neither_key
returns-in_err-neither_key c =
    let p = err_from_is_err_and c.from_residual.result
    c.from_residual.ensures.1 in
    rw (p.1, p.2) (native_own c.args.class (table_view c.args.table.now) c.args.kind c.requires
    c.in_err-neither_key.field-0.0 c.in_err-neither_key.ensures)

pub returns-in_err-neither_key-2 : goal.returns-in_err-neither_key-2
returns-in_err-neither_key-2 c =
    let p = err_from_is_err_and c.from_residual-in_err-neither_key-2.result
    c.from_residual-in_err-neither_key-2.ensures.1 in
    rw (p.1, p.2) (native_rules c.args.class (table_view c.args.table.now) c.args.kind c.requires
    c.in_ok-neither_key.ensures.0 c.in_err-neither_key-2.field-0.0 c.in_err-neither_key-2.ensures)

pub returns : goal.returns
returns c =
    let good =
    ruleless_good c.in_ok-methods.methods c.in_ok-methods.ensures.limits
    c.in_ok-methods.ensures.typed in (
      native_good c.args.class (table_view c.args.table.now) c.args.kind c.requires
          c.in_ok-neither_key.ensures.0 c.in_ok-neither_key-2.ensures.0,
      rw c.new.ensures (native_parts (table_view c.args.table.now) c.args.kind c.in_ok-slots.slots
          c.in_ok-methods.methods c.requires c.in_ok-slots.ensures.value c.in_ok-slots.ensures.few
          c.in_ok-methods.ensures.value good),
    )
