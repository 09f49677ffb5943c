use Rattle.do_center.proofs.notes.+info.Given as goal
use Rattle.std.{proofs.Common.{◌≡◌, true, take}, specs.List.list_all}
use Rattle.do_center.specs.Notes.{info_within}

abbrev pub invariant-all_info_within-loop-item : goal.invariant-all_info_within-loop-item
invariant-all_info_within-loop-item l =
    list_all (λ v. info_within v l.depth) (take l.item-index l.item-items) ≡ true
