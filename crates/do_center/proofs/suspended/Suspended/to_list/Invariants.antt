use Rattle.do_center.proofs.suspended.Suspended.to_list.Given as goal
use Rattle.std.proofs.Common.{◌≡◌, take}

abbrev pub invariant-loop-key : goal.invariant-loop-key
invariant-loop-key l = l.observers ≡ take l.key-index l.keys
