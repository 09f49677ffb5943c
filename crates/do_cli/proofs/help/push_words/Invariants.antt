use Rattle.do_cli.proofs.help.push_words.Given as goal
use Rattle.std.proofs.Common.{◌≡◌, ◌++◌, take}
use Rattle.do_cli.specs.Help.{words_text}

abbrev pub invariant-loop-kind : goal.invariant-loop-kind
invariant-loop-kind l = l.out ≡ l.fn.out ++ words_text (take l.kind-index l.kinds)
