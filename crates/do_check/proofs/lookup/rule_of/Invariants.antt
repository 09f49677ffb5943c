use Rattle.do_check.proofs.lookup.rule_of.Given as goal
use Rattle.std.{proofs.Common.{◌≡◌, drop}, specs.{List.find, Str.bytes_eq}}

abbrev pub invariant-loop-rule : goal.invariant-loop-rule
invariant-loop-rule l =
    find (λ r. bytes_eq l.selector r.selector) (drop l.rule-index l.rule-items)
    ≡ find (λ r. bytes_eq l.selector r.selector) l.rule-items
