use Rattle.do_site.proofs.awaiting.+awaited_below.Given as goal

-- one invocation less
abbrev pub decreases-awaited_below : goal.decreases-awaited_below
decreases-awaited_below l = l.height
