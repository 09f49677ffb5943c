use Rattle.do_script.proofs.labels.add_label.Goals as goal
use Rattle.std.proofs.{Common.{◌≡◌, None, arith}, lemmas.Grind.common_steps}
use Rattle.std.proofs.lemmas.Map.Text.{btree_map_updates_str}
use Rattle.do_script.{specs.Labels.label_in, proofs.LabelsSoFar.added}

pub returns-in_ok-insert-clause-labels : goal.returns-in_ok-insert-clause-labels
returns-in_ok-insert-clause-labels c =
    let absent : label_in c.args.found.now c.args.name.now ≡ None = grind (arith, common_steps) in
    added _ _ c.args.name.now c.args.label absent
    (btree_map_updates_str c.args.name.now c.args.found.now.labels c.insert.new.self _
    c.in_ok-insert.ensures.updates)
