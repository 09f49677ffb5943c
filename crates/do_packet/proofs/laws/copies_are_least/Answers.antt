use Rattle.do_packet.proofs.laws.copies_are_least.Goals as goal
use Rattle.do_packet.proofs.Copying.{copies_are, copies_many}

pub returns-clause-least : goal.returns-clause-least
returns-clause-least c = copies_are

pub returns-clause-many : goal.returns-clause-many
returns-clause-many c = copies_many
