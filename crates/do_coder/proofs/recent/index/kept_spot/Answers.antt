use Rattle.do_coder.proofs.recent.index.kept_spot.Goals as goal
use Rattle.std.proofs.Common.{rules}
use Rattle.do_coder.proofs.tables.IndexLaws.{one_place, kept_place, no_place}

pub returns-in-None : goal.returns-in-None
returns-in-None c =
    λ k low high same.
    absurd (no_place c.args.log.now c.args.index.now c.args.pair.now c.args.from c.args.to
    c.requires.within c.requires.differ c.requires.found k (search rules) low high same)

pub returns-then-stands : goal.returns-then-stands
returns-then-stands c =
    λ k low high same.
    one_place c.args.log.now c.args.index.now c.args.pair.now c.args.from c.args.to
    c.requires.within c.requires.differ c.requires.found c.in-Some.places.now.now k
    (search rules) low high same

pub returns-else-stands : goal.returns-else-stands
returns-else-stands c =
    λ k low high same.
    kept_place c.args.log.now c.args.index.now c.args.pair.now c.args.from c.args.to
    c.requires.within c.requires.differ c.requires.found c.in-Some.places.now k (search rules)
    (λ s. search rules) low high same
