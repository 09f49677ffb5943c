use Rattle.do_script.proofs.words.split_word.Goals as goal
use Rattle.std.proofs.{Common.{arith, ◌≡◌, None}, lemmas.Grind.common_steps}
use Rattle.do_script.{specs.Words.first_word, proofs.FirstWord.{words_none, words_some}}

pub returns-then-is_empty-clause-words : goal.returns-then-is_empty-clause-words
unfolding first_word
returns-then-is_empty-clause-words c =
    let none : first_word c.args.line.now ≡ None = grind (arith, common_steps) in
    words_none c.args.line.now none

pub returns-clause-words : goal.returns-clause-words
unfolding first_word
returns-clause-words c = words_some c.args.line.now (_, _) (grind (arith, common_steps))
