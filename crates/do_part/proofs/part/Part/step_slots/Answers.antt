use Rattle.do_part.proofs.part.Part.step_slots.Goals as goal
use Rattle.std.proofs.Common.{sym, arith, subst}
use Rattle.do_network.specs.Own.{Own}
use Rattle.do_part.specs.{Changed.written_values, Names.{AreStored, values_of}}
use Rattle.do_part.proofs.Stepped.{slots-stepped, then-written}

-- there is room for what is written, and what it names is stored
pub write_all-requires : goal.write_all-requires
write_all-requires c =
    let x = c.requires.names in
    let y = c.set_locals.ensures.names in
    record {
      names = omega (arith, x, y);
      stored = subst (λ (o : Own). AreStored o.node (values_of (written_values c.args.writes)))
          (sym c.set_locals.ensures.own) c.requires.stored;
    }

-- the sets of locals, and then the writes, are the whole step
pub returns-clause-own : goal.returns-clause-own
returns-clause-own c =
    let node = c.args.self.now.own.node in
    then-written c.args.self.now.own c.top_serial-serial.result c.args.writes
    c.set_locals.ensures.own c.write_all.ensures.own
    (slots-stepped node.stack node c.top_serial-serial.result c.args.pc c.args.sets
    c.args.handler c.args.writes c.requires.top c.top_serial-serial.ensures)
