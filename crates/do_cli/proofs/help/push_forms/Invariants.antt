use Rattle.do_cli.proofs.help.push_forms.Given as goal
use Rattle.std.proofs.Common.{◌≡◌, ◌++◌, take}
use Rattle.do_cli.specs.Help.{forms_text}

abbrev pub invariant-loop-form : goal.invariant-loop-form
invariant-loop-form l = l.out ≡ l.fn.out ++ forms_text (take l.form-index l.forms)
