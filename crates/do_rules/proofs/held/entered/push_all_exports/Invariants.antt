use Rattle.do_rules.proofs.held.entered.push_all_exports.Given as goal
use Rattle.std.{proofs.Common.{◌≡◌, ◌++◌, take}, specs.List.flat_map}
use Rattle.do_rules.specs.Exporting.{exports_of}

abbrev pub invariant-loop-item : goal.invariant-loop-item
invariant-loop-item l =
    l.objects ≡ l.fn.objects ++ flat_map (exports_of l.from) (take l.item-index l.item-items)
