use Rattle.do_sig.proofs.types.fitting.+fits.Given as goal
use Rattle.std.{proofs.Common.{◌≡◌, take, map, true}, specs.List.list_all}
use Rattle.do_sig.specs.Fits.{fits, each_takes}

abbrev pub invariant-all_fit-loop-value : goal.invariant-all_fit-loop-value
invariant-all_fit-loop-value l = list_all (fits l.item) (take l.value-index l.value-items) ≡ true

abbrev pub invariant-members_fit-loop-i : goal.invariant-members_fit-loop-i
invariant-members_fit-loop-i l = each_takes (map fits (take l.i l.types)) (take l.i l.values) ≡ true
