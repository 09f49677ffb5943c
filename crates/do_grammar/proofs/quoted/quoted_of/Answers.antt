use Rattle.do_grammar.proofs.quoted.quoted_of.Goals as goal
use Rattle.do_grammar.proofs.texts.QuotedAnswer.{quoted_told, quoted_found}

pub returns-clause-exact : goal.returns-clause-exact
returns-clause-exact c =
    quoted_told c.args.limit c.args.bytes.now c.front_quoted.result c.front_quoted.ensures

pub returns-clause-only : goal.returns-clause-only
returns-clause-only c =
    quoted_found c.args.limit c.args.bytes.now c.front_quoted.result c.front_quoted.ensures
