use Rattle.do_world.proofs.method_codes.text_at.Goals as goal
use Rattle.std.proofs.{Common.{◌≡◌, Some, None, arith}, lemmas.Grind.common_steps}
use Rattle.std.specs.Prelude.{codes}
use Rattle.toml.specs.{Data.get_member, View.{table_view, view}}
use Rattle.do_world.proofs.CodeSteps.{code_absent, code_text_told}

pub returns-in-Some : goal.returns-in-Some
returns-in-Some c =
    let there : get_member (codes "code") (table_view c.args.table.now)
    ≡ Some (view c.in-Some.value.now) =
    grind (arith, common_steps, c.in-Some.ensures, c.value_at.ensures, c.in-Some.is) in
    code_text_told c.args.place (table_view c.args.table.now) (view c.in-Some.value.now)
    c.text_of.result there c.text_of.ensures

pub returns-in-None : goal.returns-in-None
returns-in-None c =
    let none : get_member (codes "code") (table_view c.args.table.now) ≡ None =
    grind (arith, common_steps, c.in-None.ensures, c.value_at.ensures, c.in-None.is) in
    code_absent c.args.place (table_view c.args.table.now) none
