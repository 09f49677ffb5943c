use Rattle.do_center.proofs.observers.first_of.Given as goal
use Rattle.std.{proofs.Common.{◌≡◌, ◌+◌, drop}, specs.Option.option_map}
use Rattle.do_center.specs.Observers.{first_of}

abbrev pub invariant-loop-at : goal.invariant-loop-at
invariant-loop-at g l =
    option_map (λ k. l.at + k) (first_of g.T.Observed.observer (drop l.at l.list) l.observer)
    ≡ first_of g.T.Observed.observer l.list l.observer
