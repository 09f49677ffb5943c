use Rattle.do_network.proofs.laws.streams.losses_keep_what_is_before.Goals as goal
use Rattle.do_network.{proofs.LossLeavesFront.front_stays, specs.Net.Lost}

pub returns : goal.returns
returns c after d few = front_stays d.waiting after Lost few
