use Rattle.do_exchanged.proofs.laws.served_files_are_read.Goals as goal
use Rattle.do_exchanged.proofs.Files.{files_read}

pub returns : goal.returns
returns c = files_read
