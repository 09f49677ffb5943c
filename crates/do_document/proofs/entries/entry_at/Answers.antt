use Rattle.do_document.proofs.entries.entry_at.Goals as goal
use Rattle.std.proofs.{lemmas.Result.err_from_is_err_and, Common.◌∙◌}
use Rattle.toml.specs.View.{table_view}
use Rattle.do_document.proofs.EntrySteps.{entry_first, entry_good, entry_second, rule_said}

pub returns-in_err-method : goal.returns-in_err-method
returns-in_err-method c =
    let p = err_from_is_err_and c.from_residual.result
    c.from_residual.ensures.1 in
    rw (p.1, p.2) (entry_first _ _ _ _ c.in_err-method.field-0.0
    (rw c.keys.ensures at c.in_err-method.ensures))

pub returns-in_err-rule : goal.returns-in_err-rule
returns-in_err-rule c =
    let p = err_from_is_err_and c.from_residual-in_err-rule.result
    c.from_residual-in_err-rule.ensures.1 in
    rw (p.1, p.2) (entry_second _ _ _ _ c.in_err-rule.field-0.0
    (rw c.keys.ensures at c.in_ok-method.ensures.0) c.in_err-rule.ensures)

pub returns : goal.returns
returns c = (
  entry_good _ _ _ _ (rw c.keys.ensures at c.in_ok-method.ensures.0) c.in_ok-rule.ensures.0,
  (
    c.in_ok-method.ensures.1,
    record {
      said = rule_said c.args.list (table_view c.args.table.now) c.in_ok-method.method
          c.in_ok-method.ensures.1.said ∙ c.in_ok-rule.ensures.1.0;
      good = c.in_ok-rule.ensures.1.1;
    },
  ),
)
