use Rattle.do_import.proofs.holdings.Holdings.lowest.Goals as goal
use Rattle.std.proofs.Common.{sym}
use Rattle.do_import.proofs.Threads.{none_leaves, lowest_leaves}

-- where the thread is empty none may leave
pub returns-in_default : goal.returns-in_default
returns-in_default c =
    rw (← c.self.view_is)
    (none_leaves _ _ c.self.inside.thread.rows c.self.invariant.threads
    (sym c.in_default.ensures.value))

-- else the first of the thread is the lowest that may
pub returns : goal.returns
returns c = rw (← c.self.view_is)
    (lowest_leaves _ _ c.self.inside.thread.rows _ c.self.invariant.threads
    (sym c.in-Some.ensures.value))
