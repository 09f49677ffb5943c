use Rattle.do_spelled.proofs.name.have_names.Given as goal
use Rattle.std.{proofs.Common.take, specs.List.AllByRecursion}
use Rattle.do_coder.specs.{Names.IsName, Packets.{surroundings, sides_of}}

abbrev pub invariant-loop-name : goal.invariant-loop-name
invariant-loop-name l =
    AllByRecursion (IsName (sides_of (surroundings l.table l.from l.to)))
    (take l.name-index l.names)
