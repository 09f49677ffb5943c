use Rattle.do_document.proofs.parts.checker_parts.Goals as goal
use Rattle.std.proofs.lemmas.Result.{err_from_is_err_and}
use Rattle.toml.specs.View.{table_view}
use Rattle.do_document.proofs.PartSteps.{allowed_said, checker_allowed, checker_denied}
use Rattle.do_document.proofs.PartSteps.{checker_good, checker_own, checker_parts}

-- slots or methods of its own stand in the class
pub returns-in_err-neither_key : goal.returns-in_err-neither_key
returns-in_err-neither_key c =
    let p = err_from_is_err_and c.from_residual.result
    c.from_residual.ensures.1 in
    rw (p.1, p.2) (checker_own c.args.class (table_view c.args.table.now)
    c.in_err-neither_key.field-0.0
    c.in_err-neither_key.ensures)

-- the list of what is allowed has a fault
pub returns-in_err-allowed : goal.returns-in_err-allowed
returns-in_err-allowed c =
    let p = err_from_is_err_and c.from_residual-in_err-allowed.result
    c.from_residual-in_err-allowed.ensures.1 in
    rw (p.1, p.2) (checker_allowed c.args.class (table_view c.args.table.now)
    c.in_ok-neither_key.ensures.0
    c.in_err-allowed.field-0.0 (rw c.in_ok-own.ensures.value at c.in_err-allowed.ensures))

-- the list of what is denied has a fault
pub returns-in_err-listed : goal.returns-in_err-listed
returns-in_err-listed c =
    let p = err_from_is_err_and c.from_residual-in_err-listed.result
    c.from_residual-in_err-listed.ensures.1 in
    rw (p.1, p.2) (checker_denied c.args.class (table_view c.args.table.now)
    c.in_ok-neither_key.ensures.0
    (rw c.in_ok-own.ensures.value at c.in_ok-allowed.ensures.0) c.in_ok-allowed.allowed.methods
    (allowed_said (table_view c.args.table.now) c.in_ok-allowed.allowed.methods
    c.in_ok-allowed.allowed.rules (rw c.in_ok-own.ensures.value at c.in_ok-allowed.ensures.1))
    c.in_err-listed.field-0.0 c.in_err-listed.ensures)

-- none has, and the parts are those of a checker
pub returns : goal.returns
returns c = (
  checker_good c.args.class (table_view c.args.table.now) c.in_ok-neither_key.ensures.0
      (rw c.in_ok-own.ensures.value at c.in_ok-allowed.ensures.0) c.in_ok-allowed.allowed.methods
      (allowed_said (table_view c.args.table.now) c.in_ok-allowed.allowed.methods
      c.in_ok-allowed.allowed.rules (rw c.in_ok-own.ensures.value at c.in_ok-allowed.ensures.1))
      c.in_ok-listed.ensures.0,
  checker_parts (table_view c.args.table.now) c.in_ok-slots.slots c.in_ok-allowed.allowed.methods
      c.in_ok-listed.listed.methods c.in_ok-allowed.allowed.rules c.in_ok-listed.listed.rules
      c.in_ok-slots.ensures.value c.in_ok-slots.ensures.few
      (rw c.in_ok-own.ensures.value at c.in_ok-allowed.ensures.1) c.in_ok-listed.ensures.1,
)
