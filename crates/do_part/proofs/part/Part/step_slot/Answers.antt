use Rattle.do_part.proofs.part.Part.step_slot.Goals as goal
use Rattle.std.{proofs.Common.{sym, arith, subst}, specs.Prelude.{◌∷◌, []}}
use Rattle.do_network.specs.Own.{Own}
use Rattle.do_part.{specs.Names.{AreStored, value_of}, proofs.Stepped.{slot-stepped, then-written}}

-- there is room for the value, and what it names is stored
pub write-requires : goal.write-requires
write-requires c =
    let x = c.requires.names in
    let y = c.go_to.ensures.names in
    record {
      names = omega (arith, x, y);
      stored = subst (λ (o : Own). AreStored o.node (value_of c.args.value))
          (sym c.go_to.ensures.own) c.requires.stored;
    }

-- to go on, and then to write the slot, is the whole step
pub returns-clause-own : goal.returns-clause-own
returns-clause-own c =
    let node = c.args.self.now.own.node in
    then-written c.args.self.now.own c.top_serial-serial.result
    (record { slot = c.args.slot; value = c.args.value } ∷ []) c.go_to.ensures.own
    c.write.ensures.own
    (slot-stepped node.stack node c.top_serial-serial.result c.args.slot c.args.pc c.args.value
    c.requires.top c.top_serial-serial.ensures)
