use Rattle.do_quiet.proofs.laws.ends_stay_open_unless_broken.Goals as goal
use Rattle.do_quiet.proofs.EndsStayOpen.{stay_open}

pub returns : goal.returns
returns c table act seats = stay_open table seats act
