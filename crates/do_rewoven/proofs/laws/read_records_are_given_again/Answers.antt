use Rattle.do_rewoven.proofs.laws.read_records_are_given_again.Goals as goal
use Rattle.do_weave.proofs.Again.{given_again}
use Rattle.do_rewoven.proofs.RecordsBehind.{read_sound}

pub returns : goal.returns
returns c R S seats files records lines read =
    given_again R S records lines (read_sound seats files records read).apart
