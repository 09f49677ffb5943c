use Rattle.do_site.proofs.planning.planned.Goals as goal
use Rattle.std.proofs.Common.{ap, sym, ◌∙◌}
use Rattle.do_machine.specs.{Context.Context, run.Verdicts.effect_of}
use Rattle.do_site.proofs.PlansKeep.{if_ok}

-- a plan of a value for a local is the verdict itself, and does what that does
pub returns-in-Goes : goal.returns-in-Goes
returns-in-Goes c = λ r turn. ap (effect_of r) (sym c.in-Goes.is)

-- so it is where an answer is used
pub returns-in-Uses : goal.returns-in-Uses
returns-in-Uses c = λ r turn. ap (effect_of r) (sym c.in-Uses.is)

-- and where a root is vended
pub returns-in-Vends : goal.returns-in-Vends
returns-in-Vends c = λ r turn. ap (effect_of r) (sym c.in-Vends.is)

-- and where a value is shown
pub returns-in-Says : goal.returns-in-Says
returns-in-Says c = λ r turn. ap (effect_of r) (sym c.in-Says.is)

-- and where a peer is asked
pub returns-in-Asks : goal.returns-in-Asks
returns-in-Asks c = λ r turn. ap (effect_of r) (sym c.in-Asks.is)

-- and where a peer is told
pub returns-in-Tells : goal.returns-in-Tells
returns-in-Tells c = λ r turn. ap (effect_of r) (sym c.in-Tells.is)

-- a plan of an object that is made has its nil slots, and does what the verdict does
pub returns-in-Makes : goal.returns-in-Makes
returns-in-Makes c =
    if_ok c.making.result (λ plan does r turn. does r (ap (λ (x : Context). x.table) turn.context)
    ∙ ap (effect_of r) (sym c.in-Makes.is)) c.making.ensures

-- a plan of a method that begins has its invocation
pub returns-in-Begins : goal.returns-in-Begins
returns-in-Begins c =
    if_ok c.beginning.result (λ plan does r turn. does r ∙ ap (effect_of r) (sym c.in-Begins.is))
    c.beginning.ensures

-- a plan of a result has the way on which it is delivered
pub returns-in-Returns : goal.returns-in-Returns
returns-in-Returns c =
    if_ok c.delivering.result (λ plan does r turn. does r turn
    ∙ ap (effect_of r) (sym c.in-Returns.is)) c.delivering.ensures.effect

-- a plan of an exception has the handler that takes it, or the way out of the invocation
pub returns-in-Fails : goal.returns-in-Fails
returns-in-Fails c =
    if_ok c.failing.result (λ plan does r turn. does r turn
    ∙ ap (effect_of r) (sym c.in-Fails.is)) c.failing.ensures.effect
