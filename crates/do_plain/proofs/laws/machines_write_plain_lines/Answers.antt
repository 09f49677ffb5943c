use Rattle.do_plain.proofs.laws.machines_write_plain_lines.Goals as goal
use Rattle.do_plain.proofs.Texts.{transcript_stays}

-- a whole transcript is left
pub returns : goal.returns
returns c table ok named act seats lines good = transcript_stays table ok named act seats lines good
