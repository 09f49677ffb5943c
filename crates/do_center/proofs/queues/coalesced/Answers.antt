use Rattle.do_center.proofs.queues.coalesced.Goals as goal
use Rattle.std.proofs.{Common.{not, rules, ◌∙◌, ap}, lemmas.Fn.filter_same}
use Rattle.do_center.specs.Queues.{coalesced, same_kind}

pub returns : goal.returns
returns c =
    c.from_vec.ensures
    ∙ filter_same _ (λ x. not (same_kind x c.args.entry.now)) _ (λ x b f called. search rules) _ _
    c.retain.ensures.filtered
    ∙ ap (λ q. coalesced q c.args.entry.now) c.into_vec-waiting.ensures
