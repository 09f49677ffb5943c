use Rattle.do_spelled.proofs.part.+parts.Goals as goal
use Rattle.std.proofs.Common.{subst, sym}
use Rattle.do_coder.specs.Parts.{IsPart}
use Rattle.do_spelled.proofs.Parts.{text_fits}

-- a text was tested for its length
pub has_part-returns-in-Text : goal.has_part-returns-in-Text
has_part-returns-in-Text t c =
    let both =
    text_fits c.args.copies c.args.names c.args.depth c.in-Text.text c.has_text.ensures.bytes in
    let Fits = IsPart c.args.copies c.args.names c.args.depth in (
      λ few. subst Fits (sym c.in-Text.is) (both.0 (c.has_text.ensures.few.0 few)),
      λ fits. c.has_text.ensures.few.1 (both.1 (subst Fits c.in-Text.is fits)),
    )
