use Rattle.do_quiet.proofs.laws.lends_last_while_ends_are_open.Goals as goal
use Rattle.do_quiet.proofs.LendsLast.{lasts_until_taken}

pub returns : goal.returns
returns c = λ table act seats. lasts_until_taken table seats act
