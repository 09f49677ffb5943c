-- The lines up to here were counted.
use Rattle.do_make.proofs.adding.add_shown.Given as goal
use Rattle.std.{proofs.Common.{◌≡◌, ◌+◌, take}, specs.List.count_by}
use Rattle.do_make.specs.Summary.{is_free, is_say}

abbrev pub invariant-loop-line : goal.invariant-loop-line
invariant-loop-line l =
    l.sum
    ≡ record l.fn.sum {
      says = l.fn.sum.says + count_by is_say (take l.line-index l.shown);
      frees = l.fn.sum.frees + count_by is_free (take l.line-index l.shown);
    }
