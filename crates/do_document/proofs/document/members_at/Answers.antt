use Rattle.do_document.proofs.document.members_at.Goals as goal
use Rattle.std.proofs.{Common.arith, lemmas.Grind.common_steps}
use Rattle.toml.specs.View.{view}
use Rattle.do_document.proofs.ListSteps.{members_absent, members_no_list, members_there}

pub returns-in-Some-as_array : goal.returns-in-Some-as_array
returns-in-Some-as_array c =
    members_there _ _ (view c.in-Some.value.now) c.as_slice.result.now
    (grind (arith, common_steps, c.in-Some.ensures, c.value_at.ensures, c.in-Some.is))
    (grind (
      arith,
      common_steps,
      c.in-Some-as_array.ensures,
      c.as_array.ensures,
      c.in-Some-as_array.is,
      c.as_slice.ensures.value,
    ))

pub returns-in-None-as_array : goal.returns-in-None-as_array
returns-in-None-as_array c =
    members_no_list _ _ (view c.in-Some.value.now)
    (grind (arith, common_steps, c.in-Some.ensures, c.value_at.ensures, c.in-Some.is))
    (grind (
      arith,
      common_steps,
      c.in-None-as_array.ensures,
      c.as_array.ensures,
      c.in-None-as_array.is,
    ))

pub returns-in-None : goal.returns-in-None
returns-in-None c =
    members_absent _ _ (grind (
      arith,
      common_steps,
      c.in-None.ensures,
      c.value_at.ensures,
      c.in-None.is,
    ))
