use Rattle.do_coder.proofs.recent.name_log.NameLog.copy.Given as goal
use Rattle.std.proofs.Common.{◌≡◌, take}

abbrev pub invariant-loop-place : goal.invariant-loop-place
invariant-loop-place l = l.copy.now ≡ take l.place l.self.now
