use Rattle.do_grammar.proofs.skipped.skip_denoted.Given as goal
use Rattle.std.{proofs.Common.{◌≡◌, ◌-◌}, specs.Option.option_map}
use Rattle.do_grammar.specs.Quoted.{denoted}

abbrev pub invariant-loop-i : goal.invariant-loop-i
invariant-loop-i l =
    option_map (λ x. x.1) (denoted (l.limit - l._i) l.rest)
    ≡ option_map (λ x. x.1) (denoted l.fn.limit l.fn.bytes)
