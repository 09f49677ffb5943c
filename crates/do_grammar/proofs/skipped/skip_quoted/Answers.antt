use Rattle.do_grammar.proofs.skipped.skip_quoted.Goals as goal
use Rattle.do_grammar.proofs.texts.QuotedAnswer.{skipped_told, skipped_found}

pub returns-clause-exact : goal.returns-clause-exact
returns-clause-exact c =
    skipped_told c.args.limit c.args.bytes.now c.behind_quoted.result c.behind_quoted.ensures

pub returns-clause-only : goal.returns-clause-only
returns-clause-only c =
    skipped_found c.args.limit c.args.bytes.now c.behind_quoted.result c.behind_quoted.ensures
