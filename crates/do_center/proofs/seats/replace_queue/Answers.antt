use Rattle.do_center.proofs.seats.replace_queue.Goals as goal
use Rattle.std.{proofs.Common.{◌≡◌, Some, None, sym, ◌∙◌, arith}, specs.Prelude.slice_get}
use Rattle.std.proofs.lemmas.Grind.{common_steps}
use Rattle.do_center.specs.Observers.{first_of}
use Rattle.do_center.proofs.FirstOf.{queue_given, queue_put, seat_observer}

pub returns-in-Some-clause-was : goal.returns-in-Some-clause-was
returns-in-Some-clause-was c =
    let ss = c.args.seats.now in
    let o = c.args.observer in
    let first : first_of seat_observer ss o ≡ Some c.in-Some.at = grind (arith, common_steps) in
    let there : slice_get ss c.in-Some.at ≡ Some c.at_mut.result.now =
    grind (arith, common_steps) in
    c.replace.ensures.value
    ∙ sym ((queue_given ss o).first c.in-Some.at c.at_mut.result.now first there)

pub returns-in-Some-clause-left : goal.returns-in-Some-clause-left
returns-in-Some-clause-left c =
    let ss = c.args.seats.now in
    let o = c.args.observer in
    let first : first_of seat_observer ss o ≡ Some c.in-Some.at = grind (arith, common_steps) in
    let there : slice_get ss c.in-Some.at ≡ Some c.at_mut.result.now =
    grind (arith, common_steps) in
    let put =
    (queue_put ss o c.args.queue).first c.in-Some.at c.at_mut.result.now first there in
    grind (arith, common_steps, put)

pub returns-in-None-clause-was : goal.returns-in-None-clause-was
returns-in-None-clause-was c =
    let ss = c.args.seats.now in
    let o = c.args.observer in
    let none : first_of seat_observer ss o ≡ None = grind (arith, common_steps) in
    c.new.ensures ∙ sym ((queue_given ss o).absent none)

pub returns-in-None-clause-left : goal.returns-in-None-clause-left
returns-in-None-clause-left c =
    let ss = c.args.seats.now in
    let o = c.args.observer in
    let none : first_of seat_observer ss o ≡ None = grind (arith, common_steps) in
    sym ((queue_put ss o c.args.queue).absent none)
