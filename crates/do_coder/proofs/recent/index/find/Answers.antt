use Rattle.do_coder.proofs.recent.index.find.Goals as goal
use Rattle.std.proofs.Common.{sym, rules}
use Rattle.do_coder.proofs.tables.IndexLaws.{not_stood, not_stored}

pub returns-in-None : goal.returns-in-None
returns-in-None c =
    sym (not_stored c.args.log.now c.args.start c.args.index.now c.args.pair.now c.requires.begins
    c.requires.found (search rules))

pub returns-else-stands-2 : goal.returns-else-stands-2
returns-else-stands-2 c =
    sym (not_stood c.args.log.now c.args.start c.args.index.now c.args.pair.now c.in-Some.places.now
    c.requires.begins c.requires.found (search rules) (λ s. search rules) (λ s. search rules))
