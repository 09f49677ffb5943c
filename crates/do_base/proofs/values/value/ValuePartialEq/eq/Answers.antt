-- Both answers are true exactly at equal values.
use Rattle.do_base.proofs.values.value.ValuePartialEq.eq.Goals as goal
use Rattle.std.proofs.lemmas.Bool.Decides.{same_from_decides}
use Rattle.do_base.specs.values.Equal.{value_eq, value_eq-Decides}

pub returns : goal.returns
returns c = same_from_decides _ (value_eq c.args.self.now c.args.other.now) c.same_value.ensures
    (value_eq-Decides _ _)
