use Rattle.do_script.proofs.operands.place_among.Given as goal
use Rattle.std.proofs.Common.{◌≡◌, drop}
use Rattle.do_script.specs.Operands.{place_from}

abbrev pub invariant-loop-place : goal.invariant-loop-place
invariant-loop-place l =
    place_from 0 l.names l.word ≡ place_from l.place (drop l.place l.names) l.word
