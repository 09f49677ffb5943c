use Rattle.do_site.proofs.work.Work.make_room_to_take.Goals as goal
use Rattle.std.proofs.Common.{ap, subst, sym, ◌∙◌}
use Rattle.do_base.specs.declared.events.shown.Shown.TheVariants.{Took}
use Rattle.do_machine.specs.{run.Fresh.with_objects, take.Lines.item_line}
use Rattle.do_network.specs.Own.{Own}
use Rattle.do_part.specs.{Filled.made_values, Names.{AreStored, values_of}}
use Rattle.do_effects.specs.{Doing.Doing, Taking.{CanFollow, ruling_copies, ruling_values}}
use Rattle.do_site.proofs.TakenSteps.{ruling_place}

-- the line is that of the item before room was made
pub returns-clause-line : goal.returns-clause-line
returns-clause-line c =
    ap Took (c.in_ok-line.ensures
    ∙ ap (λ port. item_line c.args.from port c.args.item.now) c.port.ensures
    ∙ ap (λ (d : Doing). item_line c.args.from d.own.node.port c.args.item.now)
    c.in_ok-make_room.ensures.same)

-- the node can do what the ruling says, in the room that was made
pub returns-clause-ready : goal.returns-clause-ready
returns-clause-ready c =
    let own = sym (ap (λ (d : Doing). d.own) c.in_ok-make_room.ensures.same) in
    let item = c.args.item.now in
    let r = c.args.ruling.now in
    let copies = ruling_copies r in
    record {
      copies = subst (λ (p : Own). AreStored (with_objects copies p.node)
          (values_of (made_values copies))) own c.in-Some.ensures.copies;
      values = subst (λ (p : Own). AreStored (with_objects copies p.node)
          (values_of (ruling_values r))) own c.in-Some.ensures.values;
      can = subst (λ (p : Own). CanFollow p.node c.args.from item r) own c.in-Some.ensures.can;
      place = ruling_place c.args.from item r c.in-Some.needs c.args.self.now.core
          c.make_room.new.self.core c.make_room.new.self.told
          c.in_ok-make_room.ensures.same c.in-Some.ensures c.in_ok-make_room.ensures.room;
    }
