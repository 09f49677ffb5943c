use Rattle.do_coder.proofs.recent.name_log.NameLog.undo.Goals as goal
use Rattle.std.proofs.Common.{subst, sym, List}
use Rattle.do_coder.specs.{declared.recent.pair.Pair.Pair, NameLog.IsNameLog}
use Rattle.do_coder.proofs.tables.NameLogLaws.{log_undone}

pub invariant_of-self : goal.invariant_of-self
invariant_of-self c =
    let i = c.self.inside in
    subst (λ (w : List Pair). IsNameLog w i.kept_start i.kept_start i.kept_end i.index)
    (sym c.truncate.ensures)
    (log_undone i.log i.start i.kept_start i.kept_end i.index c.self.invariant)
