use Rattle.do_pboard.proofs.parts.board_rows.Goals as goal
use Rattle.std.proofs.Common.{◌++◌, [], ◌∷◌, ap, sym, ◌∙◌, add-one, take}
use Rattle.do_table.specs.{Entries.entry_shown, laws.TableLaws.take_one}
use Rattle.do_pboard.specs.Core.{NamedBoard}

pub loop-at-preserved : goal.loop-at-preserved
loop-at-preserved c =
    let boards = c.args.boards.now in
    let e = entry_shown c.entry.result in
    let pushed : NamedBoard = (c.in_ok-name.name, c.entry.result.1.now) in
    c.in_ok-push.ensures.ok ∙ ap (λ rows. rows ++ pushed ∷ []) c.loop-at.invariant
    ∙ ap (λ n. take c.loop-at.at boards ++ (n, c.entry.result.1.now) ∷ [])
    c.in_ok-name.ensures.cases
    ∙ sym (ap (λ n. take n boards) (add-one c.loop-at.at)
    ∙ take_one boards c.loop-at.at e c.entry.ensures)
