use Rattle.do_plain.proofs.laws.worlds_have_names.Goals as goal
use Rattle.do_plain.proofs.Worlds.{builtin_has, text_has}

-- by the text of a world
pub returns-clause-text : goal.returns-clause-text
returns-clause-text c = text_has

-- and by the name of a built-in one
pub returns-clause-builtin : goal.returns-clause-builtin
returns-clause-builtin c = builtin_has
