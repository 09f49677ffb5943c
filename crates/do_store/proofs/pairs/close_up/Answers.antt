use Rattle.do_store.proofs.pairs.close_up.Goals as goal
use Rattle.std.proofs.{Common.rules, lemmas.Fn.filter_same}

pub returns-clause-items : goal.returns-clause-items
returns-clause-items c = filter_same _ _ _ (λ x b f' k. search rules) _ _ c.retain.ensures.filtered
