use Rattle.do_center.proofs.notes.+info.Goals as goal
use Rattle.std.proofs.Common.{ap, sym, ◌∙◌}
use Rattle.do_center.{specs.Notes.info_within, proofs.InfoDeeper.info_deeper}

pub info_within-returns-then-depth-gt0 : goal.info_within-returns-then-depth-gt0
info_within-returns-then-depth-gt0 t c =
    c.all_info_within.ensures
    ∙ sym (info_deeper c.in-List.items c.args.depth c.if-depth-gt0.true)
    ∙ ap (λ v. info_within v c.args.depth) (sym c.in-List.is)
