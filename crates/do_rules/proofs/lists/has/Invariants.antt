use Rattle.do_rules.proofs.lists.has.Given as goal
use Rattle.std.{proofs.Common.{◌≡◌, take, false}, specs.List.list_any}

abbrev pub invariant-loop-item : goal.invariant-loop-item
invariant-loop-item g l =
    list_any (g.P.Test.passes l.test) (take l.item-index l.items) ≡ false
