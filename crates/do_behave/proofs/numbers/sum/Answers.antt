use Rattle.do_behave.proofs.numbers.sum.Goals as goal
use Rattle.std.{specs.{Prelude.◌+ℤ◌, Int.w64}, proofs.lemmas.Int.to_z-of_z}
use Rattle.do_behave.proofs.Checked.{checked_is}

pub returns : goal.returns
returns c =
    checked_is c.checked_add.result (c.args.x +ℤ c.args.y)
    (rw (to_z-of_z w64 c.args.x c.ranges.x, to_z-of_z w64 c.args.y c.ranges.y)
    at c.checked_add.ensures)
