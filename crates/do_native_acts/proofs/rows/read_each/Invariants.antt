use Rattle.do_native_acts.proofs.rows.read_each.Given as goal
use Rattle.std.{proofs.Common.{◌≡◌, ◌++◌, drop}, specs.Option.option_map}
use Rattle.do_native_acts.specs.Rows.{read_all}

abbrev pub invariant-loop-value : goal.invariant-loop-value
invariant-loop-value g l =
    option_map (λ more. l.list ++ more)
    (read_all g.T.Row.read (drop l.value-index l.value-items))
    ≡ read_all g.T.Row.read l.value-items
