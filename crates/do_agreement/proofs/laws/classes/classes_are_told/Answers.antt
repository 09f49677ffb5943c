use Rattle.do_agreement.proofs.laws.classes.classes_are_told.Goals as goal
use Rattle.do_agreement.proofs.told.EachState.{reached_told}

pub returns : goal.returns
returns c = reached_told
