use Rattle.do_ported.proofs.ports.Ports.remove.Goals as goal
use Rattle.std.{proofs.Common.{length, subst, sym, ◌<◌, List, ℕ}, specs.List.Sorted.IsNonDecreasing}
use Rattle.do_ported.proofs.FirstOfPorts.{rises_without}

-- ports that rise do so without one
pub invariant_of-self : goal.invariant_of-self
invariant_of-self c = λ yes.
    subst IsNonDecreasing (sym c.remove.ensures.rest)
    (rises_without c.self.inside.listed c.args.at
    (subst (λ (xs : List ℕ). c.args.at < length xs) (sym c.self.view_is) c.requires)
    (c.self.invariant yes))
