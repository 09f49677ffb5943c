use Rattle.do_frames.proofs.stream.front.place_of.Goals as goal
use Rattle.std.proofs.Common.{arith}
use Rattle.do_grammar.proofs.faults.AnswerExact.{bytes_from_each}
use Rattle.do_frames.proofs.streams.FrontPlaces.{front_whole, front_fails}

pub overflow_sub-ends : goal.overflow_sub-ends
overflow_sub-ends c =
    (front_whole c.args.greeted c.args.bytes.now _ c.in-Ok.rest.now
    (bytes_from_each c.args.bytes.now (λ i. omega (arith, c.type_inv.bytes i))) c.in-Ok.ensures).0

pub overflow_sub-begins : goal.overflow_sub-begins
overflow_sub-begins c =
    (front_whole c.args.greeted c.args.bytes.now _ c.in-Ok.rest.now
    (bytes_from_each c.args.bytes.now (λ i. omega (arith, c.type_inv.bytes i))) c.in-Ok.ensures).1.0

pub returns-in-Ok : goal.returns-in-Ok
returns-in-Ok c =
    (front_whole c.args.greeted c.args.bytes.now _ c.in-Ok.rest.now
    (bytes_from_each c.args.bytes.now (λ i. omega (arith, c.type_inv.bytes i))) c.in-Ok.ensures).1.1

pub returns-in-Err : goal.returns-in-Err
returns-in-Err c =
    front_fails c.args.greeted c.args.bytes.now c.in-Err.e
    (bytes_from_each c.args.bytes.now (λ i. omega (arith, c.type_inv.bytes i))) c.in-Err.ensures
