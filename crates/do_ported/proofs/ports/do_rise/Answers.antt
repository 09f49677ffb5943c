use Rattle.do_ported.proofs.ports.do_rise.Goals as goal
use Rattle.std.proofs.lemmas.{Bool.MatchBool-at_true, List.Sorted.non_decreasing_from_is_sorted}

pub returns : goal.returns
returns c = λ yes.
    MatchBool-at_true _ _ yes
    (non_decreasing_from_is_sorted c.args.ports.now c.is_sorted.result c.is_sorted.ensures.cases)
