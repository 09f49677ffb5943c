use Rattle.do_weave.proofs.laws.woven_lines_are_good.Goals as goal
use Rattle.do_weave.proofs.StepsWoven.{fine_woven}

pub returns : goal.returns
returns c R S records lines good = fine_woven R records good S lines
