use Rattle.do_effects.proofs.changing.Core.gain.Goals as goal
use Rattle.std.proofs.Common.{◌≡◌, true, false, refl, sym, ◌∙◌, ap, arith, length, subst}
use Rattle.do_machine.specs.{State.is_open, run.Fresh.with_objects}
use Rattle.do_network.specs.Own.{Own}
use Rattle.do_effects.specs.{Doing.doing, Taking.gains, Tidy.IsTidy}
use Rattle.do_effects.proofs.{Alone.tidy_node, Gained.{gained_is, had_in, heap_made, none_had}}

-- an item with a message has names
pub returns-in_default : goal.returns-in_default
returns-in_default c = absurd (none_had c.args.item.now c.in_default.ensures c.requires.message)

-- a node with new objects counts nothing that it does not keep
pub receive_all-requires-clause-tidy : goal.receive_all-requires-clause-tidy
receive_all-requires-clause-tidy c =
    let p = c.args.self.now.part.own in
    subst IsTidy (sym c.in_ok-create_all.ensures.own)
    (tidy_node p (with_objects c.args.copies p.node)
    (record { ends = refl; held = refl; asked = refl }) c.requires.tidy)

-- its end towards the peer is still open
pub receive_all-requires-clause-open : goal.receive_all-requires-clause-open
receive_all-requires-clause-open c =
    subst (λ (p : Own). is_open p.node c.args.from ≡ true)
    (sym c.in_ok-create_all.ensures.own) c.requires.open

-- and it still has none towards itself
pub receive_all-requires-clause-apart : goal.receive_all-requires-clause-apart
receive_all-requires-clause-apart c =
    subst (λ (p : Own). is_open p.node p.node.port ≡ false)
    (sym c.in_ok-create_all.ensures.own) c.requires.apart

-- the copies leave the room for the names
pub receive_all-requires-clause-room : goal.receive_all-requires-clause-room
receive_all-requires-clause-room c =
    let same = ap length (had_in c.args.item.now c.in-Some.names.now c.in-Some.ensures) in
    let e = c.in_ok-create_all.ensures in
    let names = e.names in
    record {
      part = record {
        objects = omega arith;
        invocations = omega arith;
        names = omega arith;
        entries = omega arith;
      };
      waiting = omega arith;
    }

-- copies are made, the line is shown, and the names are received
pub returns-clause-ok : goal.returns-clause-ok
returns-clause-ok c =
    let names = c.in-Some.names.now in
    c.receive_all.ensures.done
    ∙ (λ j. gains c.args.from names (record {
      own = c.in_ok-create_all.ensures.own j;
      out = c.show.ensures.sent j;
      shown = c.show.ensures.shown j;
    }))
    ∙ gained_is (doing c.args.self.now) c.args.from c.args.item.now c.args.line c.args.copies
    names c.in-Some.ensures

-- in the room of the copies, the line and the names
pub returns-clause-within : goal.returns-clause-within
returns-clause-within c =
    let same = ap length (had_in c.args.item.now c.in-Some.names.now c.in-Some.ensures) in
    let n = c.args.self.now.part.own.node in
    let e = c.in_ok-create_all.ensures in
    let names = e.names in
    let heap = ap (λ (p : Own). length p.node.heap) e.own ∙ heap_made c.args.copies n in
    let held = ap (λ (p : Own). length p.node.held) e.own in
    let asked = ap (λ (p : Own). length p.node.asked) e.own in
    let within = c.receive_all.ensures.within in
    record {
      part = record {
        objects = omega arith;
        invocations = omega arith;
        names = omega arith;
        entries = omega arith;
      };
      waiting = omega arith;
      stored = omega arith;
      held = omega arith;
      asked = omega arith;
      classes = within.classes ∙ c.show.ensures.classes;
    }
