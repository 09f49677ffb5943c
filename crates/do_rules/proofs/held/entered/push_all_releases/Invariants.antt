use Rattle.do_rules.proofs.held.entered.push_all_releases.Given as goal
use Rattle.std.{proofs.Common.{◌≡◌, ◌++◌, take}, specs.List.flat_map}
use Rattle.do_rules.specs.Exporting.{releases_of}

abbrev pub invariant-loop-item : goal.invariant-loop-item
invariant-loop-item l =
    l.objects ≡ l.fn.objects ++ flat_map (releases_of l.to) (take l.item-index l.item-items)
