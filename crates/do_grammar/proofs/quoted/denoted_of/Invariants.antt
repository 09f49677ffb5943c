use Rattle.do_grammar.proofs.quoted.denoted_of.Given as goal
use Rattle.std.proofs.Common.{◌≡◌, ◌-◌}
use Rattle.do_grammar.{specs.Quoted.denoted, proofs.loops.QuotedLoop.with_text}

abbrev pub invariant-loop-i : goal.invariant-loop-i
invariant-loop-i l =
    with_text l.text (denoted (l.limit - l._i) l.rest) ≡ denoted l.fn.limit l.fn.bytes
