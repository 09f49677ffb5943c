use Rattle.do_effects.proofs.sending.name_one.Goals as goal
use Rattle.std.proofs.Common.{◌≤◌, arith, subst}
use Rattle.do_effects.specs.Sends.{CanName}

-- an own object that is named is stored
pub name-requires-clause-stored : goal.name-requires-clause-stored
name-requires-clause-stored c =
    subst (CanName c.args.part.now.own.node.heap c.args.part.now.own.node.port
    c.args.part.now.own.node.next_token) c.in-Mine.is c.requires.can

-- there is room for one name more
pub name-requires-clause-names : goal.name-requires-clause-names
name-requires-clause-names c =
    let room : 1 ≤ c.args.part.now.room.names = c.requires.room.names in omega (arith, room)

-- and for one entry more
pub name-requires-clause-room : goal.name-requires-clause-room
name-requires-clause-room c =
    let room : 1 ≤ c.args.part.now.room.entries = c.requires.room.entries in omega (arith, room)

-- an object that is lent is of a third node
pub lend-requires-clause-foreign : goal.lend-requires-clause-foreign
lend-requires-clause-foreign c =
    (subst (CanName c.args.part.now.own.node.heap c.args.part.now.own.node.port
    c.args.part.now.own.node.next_token) c.in-Lent.is c.requires.can).1

-- there is room for one lend more
pub lend-requires-clause-room : goal.lend-requires-clause-room
lend-requires-clause-room c =
    let room : 1 ≤ c.args.part.now.room.names = c.requires.room.names in omega (arith, room)
