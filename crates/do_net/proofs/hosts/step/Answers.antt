use Rattle.do_net.proofs.hosts.step.Goals as goal
use Rattle.std.proofs.Common.{rules, ◌≡◌}

pub returns-in_ok-values-in-Start : goal.returns-in_ok-values-in-Start
returns-in_ok-values-in-Start g c table act rest =
    let selector : c.in_ok-selector-in-Start.selector ≡ c.in-Start.selector = search rules in
    let values : c.in_ok-values-in-Start.values ≡ c.in-Start.values = search rules in
    rw (c.in-Start.is, ← selector, ← values) (c.hand.ensures table act rest)

pub returns-in-Take : goal.returns-in-Take
returns-in-Take g c table act rest = rw c.in-Take.is (c.take.ensures table act rest)

pub returns-in-Close : goal.returns-in-Close
returns-in-Close g c table act rest = rw c.in-Close.is (c.hand-in-Close.ensures table act rest)
