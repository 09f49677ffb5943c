-- Where there is no queue, an effect makes none.
use Rattle.std.{proofs.Common.{◌≡◌, ◌==◌, ℕ, List, arith}, specs.Prelude.None}
use Rattle.do_machine.specs.{declared.state.{Effect.Effect, Station.Station}, Commit.committed}
use Rattle.do_machine.specs.Lists.{change_first}
use Rattle.do_facts.proofs.machine.Queues.{queue_among, queue_behind}

-- among stations
pub stays_none : (port to : ℕ) (e : Effect) (ss : List Station) → queue_among port to ss ≡ None →
    queue_among port to (change_first (λ s. port == s.port) (committed e) ss) ≡ None
stays_none port to e ss h = grind (arith, h, queue_behind port port to e ss)
