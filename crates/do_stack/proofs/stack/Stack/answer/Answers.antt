use Rattle.do_stack.proofs.stack.Stack.answer.Goals as goal
use Rattle.std.{proofs.Common.{sym, ap, arith, ◌∙◌}, specs.Option.is_some}
use Rattle.do_stack.proofs.Answers.{none_waiting, none_answered, place_waiting, place_answered}
use Rattle.do_stack.proofs.Answers.{waits_asked}

-- where no place is found none waits
pub returns-in_default-clause-which : goal.returns-in_default-clause-which
returns-in_default-clause-which c = sym (ap is_some (none_waiting _ _ _ c.in_default.ensures))

-- and so none has the answer
pub returns-in_default-clause-invocations : goal.returns-in_default-clause-invocations
returns-in_default-clause-invocations c =
    sym (none_answered _ _ c.args.answer _ c.in_default.ensures)

-- the one at the place that is found waits
pub returns-clause-which : goal.returns-clause-which
returns-clause-which c =
    let d = c.index_mut.result.now in
    sym (ap is_some (place_waiting _ _ _ _ d c.in-Some.ensures)
    ∙ waits_asked _ _ _ (c.in-Some.ensures.waits d))

-- and it has the answer
pub returns-clause-invocations : goal.returns-clause-invocations
returns-clause-invocations c =
    let is = place_answered _ _ c.args.answer _ _ c.index_mut.result.now c.in-Some.ensures in
    grind (arith, is, c.self.view_is, c.index_mut.ensures.value)
