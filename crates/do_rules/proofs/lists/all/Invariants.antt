use Rattle.do_rules.proofs.lists.all.Given as goal
use Rattle.std.{proofs.Common.{◌≡◌, take, true}, specs.List.list_all}

abbrev pub invariant-loop-item : goal.invariant-loop-item
invariant-loop-item g l =
    list_all (g.P.Test.passes l.test) (take l.item-index l.items) ≡ true
