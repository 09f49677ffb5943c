use Rattle.do_facts.proofs.laws.machine.states.nodes_rise_by_port.Goals as goal
use Rattle.do_facts.proofs.machine.Ports.{opening_rises, step_ports}

pub returns : goal.returns
returns c = record { opening = opening_rises; steps = step_ports }
