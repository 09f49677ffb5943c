use Rattle.do_coder.proofs.read.front.decode.Goals as goal
use Rattle.std.{proofs.Common.{length, arith, subst, sym}, specs.List.AllByRecursion}
use Rattle.do_grammar.specs.Reader.{no_kind, short, bad}
use Rattle.do_grammar.proofs.faults.AnswerExact.{bytes_from_each}
use Rattle.do_coder.specs.Recent.{IsKnown}
use Rattle.do_coder.proofs.packets.PacketRead.{packet_found, packet_only, packet_known}
use Rattle.do_coder.proofs.packets.PacketRead.{packet_short, packet_left, packet_bad, packet_never}

-- the rest is no longer than the bytes
pub overflow_sub-result : goal.overflow_sub-result
overflow_sub-result c =
    (packet_found c.args.table.now c.args.from c.args.to c.args.recent.now c.args.bytes.now
    (record {
      tabled = c.count-classes.ensures.table;
      kept = c.len-few.ensures.recent;
      known = c.requires.known;
      small = bytes_from_each c.args.bytes.now (λ i. omega (arith, c.type_inv.bytes i));
    }) c.in-Ok.packet c.in-Ok.rest.now c.in-Ok.ensures.gives).0

-- nor is what is left at a bad byte
pub overflow_sub-result-in-Err-Bad : goal.overflow_sub-result-in-Err-Bad
overflow_sub-result-in-Err-Bad c =
    packet_left c.args.table.now c.args.from c.args.to c.args.recent.now c.args.bytes.now
    (record {
      tabled = c.count-classes.ensures.table;
      kept = c.len-few.ensures.recent;
      known = c.requires.known;
      small = bytes_from_each c.args.bytes.now (λ i. omega (arith, c.type_inv.bytes i));
    }) c.in-Err-Bad.left (rw c.in-Err-Bad.field-0-is at c.in-Err-Bad.ensures.gives)

-- the packet was spelled
pub returns-in-Ok-clause-exact : goal.returns-in-Ok-clause-exact
returns-in-Ok-clause-exact c =
    let f = packet_found c.args.table.now c.args.from c.args.to c.args.recent.now c.args.bytes.now
    (record {
      tabled = c.count-classes.ensures.table;
      kept = c.len-few.ensures.recent;
      known = c.requires.known;
      small = bytes_from_each c.args.bytes.now (λ i. omega (arith, c.type_inv.bytes i));
    }) c.in-Ok.packet c.in-Ok.rest.now c.in-Ok.ensures.gives in
    (omega arith, f.1)

-- and no other
pub returns-in-Ok-clause-only : goal.returns-in-Ok-clause-only
returns-in-Ok-clause-only c = λ text rest v g e.
    packet_only c.args.table.now c.args.from c.args.to c.args.recent.now c.args.bytes.now
    (record {
      tabled = c.count-classes.ensures.table;
      kept = c.len-few.ensures.recent;
      known = c.requires.known;
      small = bytes_from_each c.args.bytes.now (λ i. omega (arith, c.type_inv.bytes i));
    }) c.in-Ok.packet c.in-Ok.rest.now c.in-Ok.ensures.gives text rest v g e

-- the table after it has classes that are there
pub returns-in-Ok-clause-stay_known : goal.returns-in-Ok-clause-stay_known
returns-in-Ok-clause-stay_known c =
    subst (AllByRecursion (IsKnown (length c.args.table.now))) (sym c.in-Ok.ensures.after)
    (packet_known c.args.table.now c.args.from c.args.to c.args.recent.now c.args.bytes.now
    (record {
      tabled = c.count-classes.ensures.table;
      kept = c.len-few.ensures.recent;
      known = c.requires.known;
      small = bytes_from_each c.args.bytes.now (λ i. omega (arith, c.type_inv.bytes i));
    }) c.in-Ok.packet c.in-Ok.rest.now c.in-Ok.ensures.gives)

-- bytes that end too early are a proper front
pub returns-in-Err-Short-clause-exact : goal.returns-in-Err-Short-clause-exact
returns-in-Err-Short-clause-exact c =
    packet_short c.args.table.now c.args.from c.args.to c.args.recent.now c.args.bytes.now
    (record {
      tabled = c.count-classes.ensures.table;
      kept = c.len-few.ensures.recent;
      known = c.requires.known;
      small = bytes_from_each c.args.bytes.now (λ i. omega (arith, c.type_inv.bytes i));
    }) (rw c.in-Err-Short.field-0-is at c.in-Err-Short.ensures.gives)

-- and begin with no packet
pub returns-in-Err-Short-clause-only : goal.returns-in-Err-Short-clause-only
returns-in-Err-Short-clause-only c = λ text rest v g e.
    packet_never c.args.table.now c.args.from c.args.to c.args.recent.now c.args.bytes.now
    (record {
      tabled = c.count-classes.ensures.table;
      kept = c.len-few.ensures.recent;
      known = c.requires.known;
      small = bytes_from_each c.args.bytes.now (λ i. omega (arith, c.type_inv.bytes i));
    }) short (rw c.in-Err-Short.field-0-is at c.in-Err-Short.ensures.gives) text rest v g e

-- a bad byte is the first one
pub returns-in-Err-Bad-clause-exact : goal.returns-in-Err-Bad-clause-exact
returns-in-Err-Bad-clause-exact c =
    packet_bad c.args.table.now c.args.from c.args.to c.args.recent.now c.args.bytes.now
    (record {
      tabled = c.count-classes.ensures.table;
      kept = c.len-few.ensures.recent;
      known = c.requires.known;
      small = bytes_from_each c.args.bytes.now (λ i. omega (arith, c.type_inv.bytes i));
    }) c.in-Err-Bad.left (rw c.in-Err-Bad.field-0-is at c.in-Err-Bad.ensures.gives)

-- and the bytes begin with no packet
pub returns-in-Err-Bad-clause-only : goal.returns-in-Err-Bad-clause-only
returns-in-Err-Bad-clause-only c = λ text rest v g e.
    packet_never c.args.table.now c.args.from c.args.to c.args.recent.now c.args.bytes.now
    (record {
      tabled = c.count-classes.ensures.table;
      kept = c.len-few.ensures.recent;
      known = c.requires.known;
      small = bytes_from_each c.args.bytes.now (λ i. omega (arith, c.type_inv.bytes i));
    }) (bad no_kind c.in-Err-Bad.left)
    (rw c.in-Err-Bad.field-0-is at c.in-Err-Bad.ensures.gives) text rest v g e
