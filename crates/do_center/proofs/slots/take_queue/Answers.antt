use Rattle.do_center.proofs.slots.take_queue.Goals as goal
use Rattle.std.proofs.{Common.{◌≡◌, Some, None, sym, ◌∙◌, arith}, lemmas.Grind.common_steps}
use Rattle.do_center.specs.Observers.{first_of}
use Rattle.do_center.proofs.FirstOf.{among_given, left_given, waiting_observer}

pub returns-in-Some-clause-was : goal.returns-in-Some-clause-was
returns-in-Some-clause-was c =
    let ws = c.args.waiting.now in
    let o = c.args.observer in
    let first : first_of waiting_observer ws o ≡ Some c.in-Some.at = grind (arith, common_steps) in
    sym ((among_given ws o).first c.in-Some.at c.remove.result first c.remove.ensures.item)

pub returns-in-Some-clause-left : goal.returns-in-Some-clause-left
returns-in-Some-clause-left c =
    let ws = c.args.waiting.now in
    let o = c.args.observer in
    let first : first_of waiting_observer ws o ≡ Some c.in-Some.at = grind (arith, common_steps) in
    let left = (left_given ws o).first c.in-Some.at c.remove.result first c.remove.ensures.item in
    grind (arith, common_steps, left)

pub returns-in-None-clause-was : goal.returns-in-None-clause-was
returns-in-None-clause-was c =
    let ws = c.args.waiting.now in
    let o = c.args.observer in
    let none : first_of waiting_observer ws o ≡ None = grind (arith, common_steps) in
    c.new.ensures ∙ sym ((among_given ws o).absent none)

pub returns-in-None-clause-left : goal.returns-in-None-clause-left
returns-in-None-clause-left c =
    let ws = c.args.waiting.now in
    let o = c.args.observer in
    let none : first_of waiting_observer ws o ≡ None = grind (arith, common_steps) in
    sym ((left_given ws o).absent none)
