use Rattle.do_effects.proofs.sending.name_all.Goals as goal
use Rattle.std.proofs.Common.{◌+◌, drop}
use Rattle.do_effects.proofs.NamingLoop.{names_at, names_begin, names_end, names_next, IsNext}
use Rattle.do_effects.proofs.{NamingLoop.next_at, sending.name_all.Goals.After-name-item}

-- no name was sent yet
pub loop-name-init : goal.loop-name-init
loop-name-init c =
    names_begin c.args.to c.args.names.now c.args.part.now c.requires.open c.requires.can
    c.requires.tokens c.requires.room

-- the next name can be sent
next : (c : After-name-item) →
    IsNext c.args.to c.name-item.result c.loop-name.part.own c.loop-name.part.room
next c = next_at c.args.to c.args.names.now c.as_slice-name-items.result.now c.name-item.result
    c.loop-name.name-index c.args.part.now c.loop-name.part c.as_slice-name-items.ensures
    c.loop-name-test.true c.name-item.is c.loop-name.invariant

-- so the end towards the peer is open
pub name_one-requires-clause-open : goal.name_one-requires-clause-open
name_one-requires-clause-open c =
    (next (goal.at.name_one-requires-clause-open c).After-name-item).here

-- what is named is stored, or of a third node
pub name_one-requires-clause-can : goal.name_one-requires-clause-can
name_one-requires-clause-can c =
    (next (goal.at.name_one-requires-clause-can c).After-name-item).can

-- there is a token for it
pub name_one-requires-clause-tokens : goal.name_one-requires-clause-tokens
name_one-requires-clause-tokens c =
    (next (goal.at.name_one-requires-clause-tokens c).After-name-item).tokens

-- and room
pub name_one-requires-clause-room : goal.name_one-requires-clause-room
name_one-requires-clause-room c =
    (next (goal.at.name_one-requires-clause-room c).After-name-item).room

-- one more name was sent
pub loop-name-preserved : goal.loop-name-preserved
loop-name-preserved c =
    names_next c.args.to c.args.names.now (drop (c.loop-name.name-index + 1) c.args.names.now)
    c.name-item.result c.loop-name.name-index c.args.part.now c.loop-name.part.own
    c.name_one.new.part.own c.loop-name.part.room c.name_one.new.part.room
    (names_at c.args.to c.args.names.now c.as_slice-name-items.result.now c.name-item.result
    c.loop-name.name-index c.args.part.now c.loop-name.part.own c.loop-name.part.room
    c.as_slice-name-items.ensures c.loop-name-test.true c.name-item.is c.loop-name.invariant)
    c.name_one.ensures.own c.name_one.ensures.within

-- all names were sent
pub returns-clause-own : goal.returns-clause-own
returns-clause-own c =
    (names_end c.args.to c.args.names.now c.as_slice-name-items.result.now c.loop-name.name-index
    c.args.part.now c.loop-name.part.own c.loop-name.part.room c.as_slice-name-items.ensures
    c.loop-name-test.false c.loop-name.invariant).own

-- each in the room of one
pub returns-clause-within : goal.returns-clause-within
returns-clause-within c =
    (names_end c.args.to c.args.names.now c.as_slice-name-items.result.now c.loop-name.name-index
    c.args.part.now c.loop-name.part.own c.loop-name.part.room c.as_slice-name-items.ensures
    c.loop-name-test.false c.loop-name.invariant).kept
