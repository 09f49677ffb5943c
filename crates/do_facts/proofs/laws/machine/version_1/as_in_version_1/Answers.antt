use Rattle.do_facts.proofs.laws.machine.version_1.as_in_version_1.Goals as goal
use Rattle.do_facts.proofs.machine.Version1.{same_answering, same_closing}

pub returns : goal.returns
returns c = record { answers = same_answering; closes = same_closing }
