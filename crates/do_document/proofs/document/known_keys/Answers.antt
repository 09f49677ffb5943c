use Rattle.do_document.proofs.document.known_keys.Goals as goal
use Rattle.std.proofs.{Common.arith, lemmas.Grind.common_steps}
use Rattle.do_document.proofs.InOrder.{unknown_found, unknown_none}

pub returns-in-Some : goal.returns-in-Some
returns-in-Some c =
    unknown_found _ _ _ c.as_str.result.now c.wrong.result
    (grind (
      arith,
      common_steps,
      c.in-Some.ensures,
      c.as_str.ensures.value,
      c.in-Some.is,
      c.unknown_key.ensures,
    )) c.wrong.ensures

pub returns-in-None : goal.returns-in-None
returns-in-None c = (
  unknown_none _ _ _
      (grind (arith, common_steps, c.in-None.ensures, c.in-None.is, c.unknown_key.ensures)),
  tt,
)
