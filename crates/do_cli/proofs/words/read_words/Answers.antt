use Rattle.do_cli.proofs.words.read_words.Goals as goal
use Rattle.std.proofs.Common.{◌∙◌, sym}
use Rattle.do_cli.proofs.Records.{few_records}

pub returns-in-Some-clause-records : goal.returns-in-Some-clause-records
returns-in-Some-clause-records c = few_records c.args.words.now c.in-Some.command
    (sym c.in-Some.is ∙ c.in_ok-command.ensures.ok)
