use Rattle.do_facts.proofs.laws.machine.objects.held_is_referred_to.Goals as goal
use Rattle.do_packet.specs.Met.{has_object}
use Rattle.do_machine.specs.held.{Kept.kept, Leaving.freeing, Refers.node_objects}
use Rattle.do_machine.proofs.Having.{passes_among}

pub returns : goal.returns
returns c entry n o h =
    let m = (freeing (kept entry n) n).node in
    passes_among (has_object (node_objects m)) m.held o h
