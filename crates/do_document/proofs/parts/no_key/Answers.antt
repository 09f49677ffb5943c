use Rattle.do_document.proofs.parts.no_key.Goals as goal
use Rattle.std.proofs.{Common.arith, lemmas.Grind.common_steps}
use Rattle.toml.specs.View.{view}
use Rattle.do_document.proofs.InOrder.{never}

pub returns-in-Some : goal.returns-in-Some
returns-in-Some c =
    never _ _ _ (view c.in-Some.field-0.now) _
    (grind (arith, common_steps, c.in-Some.ensures, c.value_at.ensures, c.in-Some.is))
    c.wrong.ensures
