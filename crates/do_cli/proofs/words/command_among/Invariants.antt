use Rattle.do_cli.proofs.words.command_among.Given as goal
use Rattle.std.proofs.Common.{◌≡◌, drop}
use Rattle.do_cli.specs.Forms.{command_among}

abbrev pub invariant-loop-form : goal.invariant-loop-form
invariant-loop-form l =
    command_among l.forms l.words ≡ command_among (drop l.form-index l.forms) l.words
