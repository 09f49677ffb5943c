use Rattle.do_native_acts.proofs.limits.+nests.Goals as goal
use Rattle.std.proofs.Common.{ap, sym, ◌∙◌}
use Rattle.do_behave.specs.{Limits.nests_within, laws.Nesting.nests_within-deeper}

pub nests_within-returns-then-depth-gt0 : goal.nests_within-returns-then-depth-gt0
nests_within-returns-then-depth-gt0 t c =
    c.all_nest_within.ensures
    ∙ sym (nests_within-deeper c.in-List.items c.args.depth c.if-depth-gt0.true)
    ∙ ap (λ v. nests_within v c.args.depth) (sym c.in-List.is)
