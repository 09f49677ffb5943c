use Rattle.do_pboard.proofs.types.contents_of.Goals as goal
use Rattle.std.proofs.Common.{◌++◌, [], ap, ◌∙◌}
use Rattle.do_table.specs.Entries.{entry_shown}
use Rattle.do_pboard.{specs.Core.with_content, proofs.MergedRows.contents_more}

pub loop-at-preserved : goal.loop-at-preserved
loop-at-preserved c =
    let t = entry_shown c.entry.result in
    c.in_ok-push_content.ensures.ok
    ∙ ap (λ xs. xs ++ with_content t.0 t.1 []) c.loop-at.invariant
    ∙ contents_more c.args.types.now c.loop-at.at t c.entry.ensures
