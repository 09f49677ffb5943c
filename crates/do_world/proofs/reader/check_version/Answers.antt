use Rattle.do_world.proofs.reader.check_version.Goals as goal
use Rattle.std.proofs.{Common.arith, lemmas.{Grind.common_steps, Result.err_from_is_err_and}}
use Rattle.toml.specs.View.{view}
use Rattle.do_document.proofs.InOrder.{required_absent}
use Rattle.do_world.proofs.TopLists.{version_right, version_wrong}

pub returns-in_err-version : goal.returns-in_err-version
returns-in_err-version c =
    let p = err_from_is_err_and c.from_residual.result c.from_residual.ensures.1 in
    rw (p.1, p.2) (required_absent _ _ _ _ c.in_err-version.field-0.0 c.in_err-version.ensures)

pub returns-then-not-is_one : goal.returns-then-not-is_one
returns-then-not-is_one c =
    version_wrong _ (view c.in_ok-version.version.now) _ c.in_ok-version.ensures.1
    (grind (arith, common_steps, c.if-not-is_one.true, c.is_one.ensures)) c.wrong.ensures

pub returns : goal.returns
returns c = (
  version_right _ (view c.in_ok-version.version.now) c.in_ok-version.ensures.1
      (grind (arith, common_steps, c.if-not-is_one.false, c.is_one.ensures)),
  tt,
)
