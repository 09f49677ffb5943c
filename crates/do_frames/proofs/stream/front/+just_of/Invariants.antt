use Rattle.do_frames.proofs.stream.front.+just_of.Given as goal
use Rattle.std.proofs.Common.{length}

abbrev pub decreases-just_of : goal.decreases-just_of
decreases-just_of l = length l.text.now
