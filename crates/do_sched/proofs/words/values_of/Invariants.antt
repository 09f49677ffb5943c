use Rattle.do_sched.proofs.words.values_of.Given as goal
use Rattle.std.proofs.Common.{◌≡◌, ◌-◌}
use Rattle.do_sched.{specs.Reading.values_at, proofs.ValuesLoop.with_front}

abbrev pub invariant-loop-i : goal.invariant-loop-i
invariant-loop-i l =
    with_front l.values (values_at l.limit (l.count - l._i) l.rest)
    ≡ values_at l.fn.limit l.fn.count l.fn.bytes
