use Rattle.do_stack.proofs.stack.Stack.waiting.Goals as goal
use Rattle.std.proofs.Common.{sym, arith}
use Rattle.do_stack.proofs.Answers.{none_waiting, place_waiting}

-- where no place is found none waits
pub returns-in_default : goal.returns-in_default
returns-in_default c = sym (none_waiting _ _ _ c.in_default.ensures)

-- the one at the place that is found is the first that waits
pub returns : goal.returns
returns c =
    let asked = place_waiting _ _ _ _ c.index.result.now c.in-Some.ensures in
    grind (arith, asked, c.self.view_is, c.index.ensures, c.asked.ensures)
