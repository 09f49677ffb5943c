use Rattle.do_facts.proofs.laws.machine.calls.closing_ends_all.Goals as goal
use Rattle.do_facts.proofs.machine.Parting.{is_parted, calls_fail}

pub returns : goal.returns
returns c = record { parted = is_parted; calls = calls_fail }
