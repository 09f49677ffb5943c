use Rattle.do_effects.proofs.changing.Core.begins.Goals as goal
use Rattle.std.proofs.Common.{refl, sym, ◌∙◌, ap, arith, length, subst}
use Rattle.do_machine.specs.{declared.node.Node.Node, run.Fresh.pushed}
use Rattle.do_network.specs.Own.{Own}
use Rattle.do_part.specs.Names.{values_of}
use Rattle.do_stack.specs.Uses.{invocation_values}
use Rattle.do_effects.specs.{Doing.doing, Taking.on_message, Tidy.IsTidy}
use Rattle.do_effects.specs.declared.changing.Core.{Core}
use Rattle.do_effects.proofs.{Alone.tidy_node, Gained.{gained_node, gained_stored}}
use Rattle.do_effects.proofs.{Judged.{begins_back, begins_waiting, has_message}, Taken.begins_done}

-- what begins a method is a message
pub gain-requires-clause-message : goal.gain-requires-clause-message
gain-requires-clause-message c =
    has_message c.requires.judged.0 c.args.from c.args.item.now
    (sym (ap on_message c.requires.judged.1))

-- what comes in the message leaves the invocations
pub push-requires-clause-depth : goal.push-requires-clause-depth
push-requires-clause-depth c =
    let same = ap (λ (n : Node). length n.stack)
    (gained_node (doing c.gain.new.self) (doing c.args.self.now) c.args.from c.args.item.now
    c.args.line c.args.copies c.in_ok-gain.ensures.ok) in
    let can = c.requires.can in
    omega arith

-- an invocation that begins waits for nothing
pub push-requires-clause-running : goal.push-requires-clause-running
push-requires-clause-running c =
    ap begins_waiting c.requires.judged.1
    ∙ (begins_back c.requires.judged.0 c.args.from c.args.item.now).0

-- what comes in the message leaves stored what the invocation names
pub push-requires-clause-stored : goal.push-requires-clause-stored
push-requires-clause-stored c =
    gained_stored (doing c.gain.new.self) (doing c.args.self.now) c.args.from c.args.item.now
    c.args.line c.args.copies (values_of (invocation_values c.args.invocation))
    c.in_ok-gain.ensures.ok
    c.requires.values

-- what comes is received, and then the invocation begins
pub returns-clause-ok : goal.returns-clause-ok
returns-clause-ok c =
    let b : Core = record {
      part = c.push.new.self;
      streams = c.gain.new.self.streams;
    } in
    begins_done (doing c.args.self.now) (doing c.gain.new.self) (doing b) c.args.from
    c.args.item.now c.args.line c.args.copies c.in_ok-gain.ensures.ok c.args.invocation
    c.push.ensures.own refl refl

-- a node with one more invocation counts nothing that it does not keep
pub returns-clause-tidy : goal.returns-clause-tidy
returns-clause-tidy c =
    let p = c.gain.new.self.part.own in
    subst IsTidy (sym c.push.ensures.own)
    (tidy_node p (pushed c.args.invocation p.node)
    (record { ends = refl; held = refl; asked = refl }) c.in_ok-gain.ensures.tidy)

-- an invocation leaves the heap and what is held
pub returns-clause-within : goal.returns-clause-within
returns-clause-within c =
    let heap = ap (λ (p : Own). length p.node.heap) c.push.ensures.own in
    let held = ap (λ (p : Own). length p.node.held) c.push.ensures.own in
    let asked = ap (λ (p : Own). length p.node.asked) c.push.ensures.own in
    let within = c.in_ok-gain.ensures.within in
    record {
      waiting = omega arith;
      stored = omega arith;
      held = omega arith;
      asked = omega arith;
      classes = within.classes;
    }
