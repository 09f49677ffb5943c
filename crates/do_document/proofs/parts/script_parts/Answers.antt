use Rattle.do_document.proofs.parts.script_parts.Goals as goal
use Rattle.std.proofs.lemmas.Result.{err_from_is_err_and}
use Rattle.toml.specs.View.{table_view}
use Rattle.do_document.proofs.PartSteps.{nothing_good, script_good, script_methods, script_parts}
use Rattle.do_document.proofs.PartSteps.{script_rules, script_slots}

-- the slots have a fault
pub returns-in_err-slots : goal.returns-in_err-slots
returns-in_err-slots c =
    let p = err_from_is_err_and c.from_residual.result
    c.from_residual.ensures.1 in
    rw (p.1, p.2) (script_slots c.args.class (table_view c.args.table.now) c.in_err-slots.field-0.0
    c.in_err-slots.ensures)

-- no method stands before those of the list
pub entries_at-requires : goal.entries_at-requires
entries_at-requires c = rw c.nothing-none.ensures nothing_good

-- the methods have a fault
pub returns-in_err-listed : goal.returns-in_err-listed
returns-in_err-listed c =
    let p = err_from_is_err_and c.from_residual-in_err-listed.result
    c.from_residual-in_err-listed.ensures.1 in
    rw (p.1, p.2) (script_methods c.args.class (table_view c.args.table.now) c.in_ok-slots.ensures.0
    c.in_err-listed.field-0.0 (rw c.nothing-none.ensures at c.in_err-listed.ensures))

-- rules stand in the class
pub returns-in_err-neither_key : goal.returns-in_err-neither_key
returns-in_err-neither_key c =
    let p = err_from_is_err_and c.from_residual-in_err-neither_key.result
    c.from_residual-in_err-neither_key.ensures.1 in
    rw (p.1, p.2) (script_rules c.args.class (table_view c.args.table.now) c.in_ok-slots.ensures.0
    (rw c.nothing-none.ensures at c.in_ok-listed.ensures.0) c.in_err-neither_key.field-0.0
    c.in_err-neither_key.ensures)

-- none has, and the parts are those of a class of scripts
pub returns : goal.returns
returns c = (
  script_good c.args.class (table_view c.args.table.now) c.in_ok-slots.ensures.0
      (rw c.nothing-none.ensures at c.in_ok-listed.ensures.0) c.in_ok-neither_key.ensures.0,
  script_parts (table_view c.args.table.now) c.in_ok-slots.slots c.in_ok-listed.listed.methods
      c.in_ok-listed.listed.rules c.in_ok-slots.ensures.1.0 c.in_ok-slots.ensures.1.1
      (rw c.nothing-none.ensures at c.in_ok-listed.ensures.1),
)
