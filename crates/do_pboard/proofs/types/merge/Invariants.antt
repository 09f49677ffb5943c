use Rattle.do_pboard.proofs.types.merge.Given as goal
use Rattle.std.{proofs.Common.{◌≡◌, ◌++◌, ◌≤◌, drop, length}, specs.Option.option_map}
use Rattle.do_pboard.specs.Core.{merged}

abbrev pub invariant-loop-of : goal.invariant-loop-of
invariant-loop-of l =
    (l.used ≤ length l.rows)
    × (option_map (λ more. l.declared ++ more)
    (merged (drop l.of-index l.of-items) (drop l.used l.rows))
    ≡ merged l.of-items l.rows)
