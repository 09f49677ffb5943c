use Rattle.do_advice.proofs.nodes.push_ports.Given as goal
use Rattle.std.proofs.Common.{◌≡◌, ◌++◌, take}
use Rattle.do_advice.specs.Advice.{ports_text}

abbrev pub invariant-loop-port : goal.invariant-loop-port
invariant-loop-port l = l.out ≡ l.fn.out ++ ports_text (take l.port-index l.ports)
