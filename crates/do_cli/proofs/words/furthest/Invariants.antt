use Rattle.do_cli.proofs.words.furthest.Given as goal
use Rattle.std.proofs.Common.{◌≡◌, ◌≤◌, drop, length, max}
use Rattle.do_cli.specs.Forms.{furthest}

abbrev pub invariant-loop-form : goal.invariant-loop-form
invariant-loop-form l =
    (furthest l.forms l.words ≡ max l.most (furthest (drop l.form-index l.forms) l.words))
    × (l.most ≤ length l.words)
