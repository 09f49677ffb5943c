use Rattle.do_grammar.proofs.number.+push_digits.Goals as goal
use Rattle.std.proofs.Common.{◌<◌, ◌/◌, ◌%◌, ◌-◌, [], ◌∷◌, append_assoc, arith}
use Rattle.do_grammar.specs.Num.{digits}
use Rattle.do_grammar.proofs.loops.{DigitsLoop.push_step, PartlyAdded.added_later}

pub returns-clause-ok : goal.returns-clause-ok
returns-clause-ok t c =
    let k : 0 < c.args.k = omega arith in
    let step = push_step c.args.k c.args.x k in
    rw (
      step,
      ← c.step_of-step.ensures.value,
    )
    (simp append_assoc at (rw c.in_ok-push.ensures.ok at c.push_digits.ensures.ok))

pub returns-clause-partly : goal.returns-clause-partly
returns-clause-partly t c =
    let k : 0 < c.args.k = omega arith in
    let step = push_step c.args.k c.args.x k in
    let size = c.step_of-step.result in
    added_later c.push_digits.result c.args.out.now c.push.new.self c.push_digits.new.out
    (c.args.x / size ∷ []) (digits (c.args.k - 1) (c.args.x % size))
    (digits c.args.k c.args.x) c.in_ok-push.ensures.ok
    (rw c.step_of-step.ensures.value step) c.push_digits.ensures.partly
