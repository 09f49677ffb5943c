use Rattle.do_script.proofs.operands.text_of.Goals as goal
use Rattle.std.proofs.Common.{◌∙◌, ap, sym}
use Rattle.do_grammar.specs.Quoted.{front_view}
use Rattle.do_script.proofs.Texts.{quoted_short}

pub returns-in-Some-clause-short : goal.returns-in-Some-clause-short
returns-in-Some-clause-short c =
    quoted_short 1048575 c.args.word.now (c.in-Some.text, c.in-Some.rest.now)
    (sym c.in_ok-rest.ensures.value ∙ ap front_view c.in-Some.is)
