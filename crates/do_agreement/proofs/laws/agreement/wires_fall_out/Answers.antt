use Rattle.do_agreement.proofs.laws.agreement.wires_fall_out.Goals as goal
use Rattle.do_agreement.proofs.texts.WiresDropped.{wires_fall_out}

-- what was put in falls out again
pub returns : goal.returns
returns c = wires_fall_out
