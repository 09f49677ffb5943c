-- What is kept are the items that pass.
use Rattle.do_rules.proofs.lists.keep.Goals as goal
use Rattle.std.proofs.{Common.{◌∙◌, ap, filter, rules}, lemmas.Fn.filter_same}

pub returns : goal.returns
returns g c =
    let passes = g.P.Test.passes c.args.test.now in
    c.from_vec.ensures
    ∙ filter_same _ passes _ (λ x b f' k. search rules) _ _ c.retain.ensures.filtered
    ∙ ap (λ xs. filter passes xs) (c.into_vec-all.ensures ∙ c.replace.ensures.value)
