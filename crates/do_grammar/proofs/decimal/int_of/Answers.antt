use Rattle.do_grammar.proofs.decimal.int_of.Goals as goal
use Rattle.do_grammar.proofs.texts.DecAnswer.{int_told, int_found}

pub returns-clause-exact : goal.returns-clause-exact
returns-clause-exact c = int_told c.args.bytes.now c.whole_int.result c.whole_int.ensures

pub returns-clause-only : goal.returns-clause-only
returns-clause-only c = int_found c.args.bytes.now c.whole_int.result c.whole_int.ensures
