use Rattle.do_grammar.proofs.number.digits_of.Given as goal
use Rattle.std.proofs.Common.{◌≡◌, ◌≤◌}
use Rattle.do_grammar.specs.{Reader.no_kind, Num.digits_at}

abbrev pub invariant-loop-left : goal.invariant-loop-left
invariant-loop-left l =
    (digits_at no_kind l.low l.high l.left l.number l.rest
    ≡ digits_at no_kind l.low l.high l.k l.least l.bytes) × (l.left ≤ 8)

abbrev pub decreases-loop-left : goal.decreases-loop-left
decreases-loop-left l = l.left
