use Rattle.do_rules.proofs.ends.closing.serials_of.Given as goal
use Rattle.std.proofs.Common.{◌≡◌, take}
use Rattle.do_machine.specs.ends.Closing.{serials_of}

abbrev pub invariant-loop-object : goal.invariant-loop-object
invariant-loop-object l =
    l.serials ≡ serials_of l.peer (take l.object-index l.object-items)
