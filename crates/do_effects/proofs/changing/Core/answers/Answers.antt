use Rattle.do_effects.proofs.changing.Core.answers.Goals as goal
use Rattle.std.proofs.Common.{refl, sym, ◌∙◌, ap, arith, length, subst}
use Rattle.do_network.specs.Own.{Own}
use Rattle.do_part.specs.{Answers.answered_with, Names.values_of}
use Rattle.do_rules.specs.Answering.{call_of}
use Rattle.do_stack.specs.Answered.{values_taken}
use Rattle.do_effects.specs.{Doing.doing, Taking.on_message, Tidy.IsTidy}
use Rattle.do_effects.specs.declared.changing.Core.{Core}
use Rattle.do_effects.proofs.{Alone.tidy_node, Gained.gained_stored, Judged.has_message}
use Rattle.do_effects.proofs.Taken.{answered_keeps, answers_done, same_heap}

-- what answers a call has a message
pub gain-requires-clause-message : goal.gain-requires-clause-message
gain-requires-clause-message c =
    has_message c.requires.judged.0 c.args.from c.args.item.now
    (sym (ap on_message c.requires.judged.1))

-- what comes in the message leaves stored what the answer names
pub answer-requires-clause-stored : goal.answer-requires-clause-stored
answer-requires-clause-stored c =
    gained_stored (doing c.gain.new.self) (doing c.args.self.now) c.args.from c.args.item.now
    c.args.line c.args.copies (values_of (values_taken c.args.answer)) c.in_ok-gain.ensures.ok
    c.requires.values

-- what comes is received, and then the call has its answer
pub returns-clause-ok : goal.returns-clause-ok
returns-clause-ok c =
    let b : Core = record {
      part = c.answer-2.new.self;
      streams = c.gain.new.self.streams;
    } in
    answers_done (doing c.args.self.now) (doing c.gain.new.self) (doing b) c.args.from
    c.args.item.now c.args.line c.args.copies c.in_ok-gain.ensures.ok c.args.call c.args.answer
    c.answer-2.ensures.own refl refl

-- an answer leaves the ends, what is held and what was asked for
pub returns-clause-tidy : goal.returns-clause-tidy
returns-clause-tidy c =
    let p = c.gain.new.self.part.own in
    subst IsTidy (sym c.answer-2.ensures.own)
    (tidy_node p (answered_with (call_of c.args.call) c.args.answer p.node)
    (answered_keeps (call_of c.args.call) c.args.answer p.node) c.in_ok-gain.ensures.tidy)

-- an answer leaves the heap and what is held
pub returns-clause-within : goal.returns-clause-within
returns-clause-within c =
    let p = c.gain.new.self.part.own in
    let same = same_heap (call_of c.args.call) c.args.answer p.node in
    let heap = ap (λ (q : Own). length q.node.heap) c.answer-2.ensures.own
    ∙ ap length same in
    let held = ap (λ (q : Own). length q.node.held) c.answer-2.ensures.own
    ∙ ap length (answered_keeps (call_of c.args.call) c.args.answer p.node).held in
    let asked = ap (λ (q : Own). length q.node.asked) c.answer-2.ensures.own
    ∙ ap length (answered_keeps (call_of c.args.call) c.args.answer p.node).asked in
    let within = c.in_ok-gain.ensures.within in
    record {
      waiting = omega arith;
      stored = omega arith;
      held = omega arith;
      asked = omega arith;
      classes = within.classes;
    }
