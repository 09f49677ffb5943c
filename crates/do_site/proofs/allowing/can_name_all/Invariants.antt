use Rattle.do_site.proofs.allowing.can_name_all.Given as goal
use Rattle.std.proofs.Common.{drop}
use Rattle.do_effects.specs.Sends.{CanNameAll}

-- if the names that are left can be sent, all can
abbrev pub invariant-loop-name : goal.invariant-loop-name
invariant-loop-name l =
    CanNameAll l.part.own.node.heap l.part.own.node.port l.next (drop l.name-index l.names)
    → CanNameAll l.part.own.node.heap l.part.own.node.port l.part.own.node.next_token l.names
