use Rattle.do_effects.proofs.changing.Core.delivers.Goals as goal
use Rattle.std.proofs.Common.{◌≡◌, true, [], ◌∷◌, refl, sym, ◌∙◌, ap, arith, subst}
use Rattle.do_machine.specs.declared.{item.Item.TheVariants.{Raised, Reply}, node.Node.Node}
use Rattle.do_machine.specs.{Effect.only, State.is_open, run.{Changes.answered, Fresh.with_stack}}
use Rattle.do_network.specs.Own.{Own}
use Rattle.do_rules.specs.{Delivery.delivered, declared.run.delivery.Delivery.Delivery}
use Rattle.do_stack.specs.Waiting.{with_top as first_changed}
use Rattle.do_machine.specs.held.Refers.{answer_values}
use Rattle.do_part.specs.Names.{AreStored, values_of}
use Rattle.do_effects.specs.Doing.{Doing, does, doing}
use Rattle.do_effects.specs.Plans.{CanDeliver, below, delivery_needs, delivery_values, top_popped}
use Rattle.do_effects.specs.{Sends.{CanSend, sends}, Tidy.IsTidy, declared.changing.Core.Core}
use Rattle.do_effects.proofs.{Alone.tidy_node, Did.{below_is, bounded_node, does_from, does_shown}}
use Rattle.do_effects.proofs.Did.{node_did, popped_is}

-- the top invocation is popped, and the line is shown
pub returns-in-Shows : goal.returns-in-Shows
returns-in-Shows c =
    let old = c.args.self.now in
    let d : Doing = doing old in
    let n = d.own.node in
    let a : Core = record { part = c.ends.new.part; streams = c.show.new.self } in
    let needs = ap (λ x. (delivery_needs x).waiting) c.in-Shows.is in
    record {
      done = λ r run. does_shown (doing a) d (top_popped n) _ (c.in-Shows.line ∷ [])
          c.requires.tidy (record { ends = refl; held = refl; asked = refl }) (popped_is n r run)
          c.ends.ensures.own c.show.ensures.sent c.show.ensures.shown
          ∙ ap (λ x. does d (delivered r x)) (sym c.in-Shows.is);
      tidy = subst IsTidy (sym c.ends.ensures.own)
          (tidy_node d.own (top_popped n) (record { ends = refl; held = refl; asked = refl })
          c.requires.tidy);
      within = bounded_node (delivery_needs c.args.delivery) old a (top_popped n)
          c.ends.ensures.own (omega arith) (omega arith) (omega arith) (omega arith)
          c.show.ensures.classes;
    }

-- the top invocation is popped, and the one below it has the answer
pub returns-in-Answers : goal.returns-in-Answers
returns-in-Answers c =
    let old = c.args.self.now in
    let d : Doing = doing old in
    let n = d.own.node in
    let answer = c.in-Answers.answer in
    let m : Node = with_stack (first_changed (answered answer) (below n.stack)) n in
    let own : c.answer_top.new.self.own ≡ record d.own { node = m } =
    c.answer_top.ensures.own
    ∙ ap (λ (p : Own). record p {
      node = with_stack (first_changed (answered answer) p.node.stack) p.node;
    }) c.ends.ensures.own in
    let w = node_did (λ r. delivered r c.args.delivery) (delivery_needs c.args.delivery) old
    (record { part = c.answer_top.new.self; streams = old.streams }) m c.requires.tidy
    (record { ends = refl; held = refl; asked = refl })
    (λ r run. ap (delivered r) c.in-Answers.is
    ∙ ap (λ s. only (with_stack s r.context.node)) (below_is answer r.below)
    ∙ λ j. only (with_stack (first_changed (answered answer) (below (sym run.stack j)))
    (run.node j))) own refl (omega arith) in
    record { done = w.done; tidy = w.tidy; within = w.within }

-- the top invocation is popped, and no more
pub returns-in-Drops : goal.returns-in-Drops
returns-in-Drops c =
    let old = c.args.self.now in
    let n = old.part.own.node in
    let w = node_did (λ r. delivered r c.args.delivery) (delivery_needs c.args.delivery) old
    (record { part = c.ends.new.part; streams = old.streams }) (top_popped n)
    c.requires.tidy (record { ends = refl; held = refl; asked = refl })
    (λ r run. ap (delivered r) c.in-Drops.is ∙ ap only (popped_is n r run))
    c.ends.ensures.own refl (omega arith) in
    record { done = w.done; tidy = w.tidy; within = w.within }

-- a node without its top invocation counts nothing that it does not keep
pub send-requires-clause-tidy : goal.send-requires-clause-tidy
send-requires-clause-tidy c =
    let p = c.args.self.now.part.own in
    subst IsTidy (sym c.ends.ensures.own)
    (tidy_node p (top_popped p.node) (record { ends = refl; held = refl; asked = refl })
    c.requires.tidy)

-- its end towards the peer of the call is still open
pub send-requires-clause-open : goal.send-requires-clause-open
send-requires-clause-open c =
    let can = subst (CanDeliver c.args.self.now.part.own.node) c.in-Replies.is c.requires.can in
    subst (λ (q : Own). is_open q.node c.in-Replies.peer ≡ true) (sym c.ends.ensures.own)
    can.open_end

-- it can still name what the reply names
pub send-requires-clause-can : goal.send-requires-clause-can
send-requires-clause-can c =
    let can = subst (CanDeliver c.args.self.now.part.own.node) c.in-Replies.is c.requires.can in
    subst (λ (q : Own). CanSend q.node (Reply c.in-Replies.number c.in-Replies.packet))
    (sym c.ends.ensures.own) can.names

-- the top invocation is popped, and the reply is sent
pub returns-in-Replies-clause-done : goal.returns-in-Replies-clause-done
returns-in-Replies-clause-done c =
    let old = c.args.self.now in
    let d : Doing = doing old in
    let n = d.own.node in
    let item = Reply c.in-Replies.number c.in-Replies.packet in
    λ r run. c.send.ensures.sent
    ∙ does_from d c.ends.new.part.own (top_popped n) _
    (λ (x : Node). sends c.in-Replies.peer item x) refl c.ends.ensures.own (popped_is n r run)
    ∙ ap (λ x. does d (delivered r x)) (sym c.in-Replies.is)

-- the top invocation is popped, and the exception is sent
pub returns-in-Raises-clause-done : goal.returns-in-Raises-clause-done
returns-in-Raises-clause-done c =
    let old = c.args.self.now in
    let d : Doing = doing old in
    let n = d.own.node in
    let item = Raised c.in-Raises.number c.in-Raises.exc in
    λ r run. c.send-in-Raises.ensures.sent
    ∙ does_from d c.ends.new.part.own (top_popped n) _
    (λ (x : Node). sends c.in-Raises.peer item x) refl c.ends.ensures.own (popped_is n r run)
    ∙ ap (λ x. does d (delivered r x)) (sym c.in-Raises.is)

-- it still stores what the answer names
pub answer_top-requires-clause-stored : goal.answer_top-requires-clause-stored
answer_top-requires-clause-stored c =
    let n = c.args.self.now.part.own.node in
    subst (λ (p : Own). AreStored p.node (values_of (answer_values c.in-Answers.answer)))
    (sym c.ends.ensures.own)
    (subst (λ (x : Delivery). AreStored n (values_of (delivery_values x))) c.in-Answers.is
    c.requires.values)
