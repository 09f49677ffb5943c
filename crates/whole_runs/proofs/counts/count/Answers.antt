use Rattle.whole_runs.proofs.counts.count.Goals as goal
use Rattle.whole_runs.proofs.Alike.{count_alike}

-- all count for one program
pub replay-requires-clause-alike : goal.replay-requires-clause-alike
replay-requires-clause-alike c =
    count_alike _ c.in_ok-makers.makers c.in_ok-makers.ensures.one
