use Rattle.do_sig.proofs.encoding.Encoding.print.Goals as goal
use Rattle.std.proofs.Common.{◌≡◌, List, ℕ, ◌++◌, ap, ◌∙◌, subst}
use Rattle.do_sig.specs.{Encodings.IsEncoding, MethodTypes.QualifiedType}
use Rattle.do_sig.specs.Spelling.{outermost_spelling, qualifier_letters, encoding_spelling}
use Rattle.do_sig.proofs.EncodingPrinted.{alone_printed}

pub returns-clause-again : goal.returns-clause-again
returns-clause-again c =
    let q = c.self.inside.qualifiers in
    let t = c.self.inside.value_type in
    let e : QualifiedType = record { qualifiers = q; value_type = t } in
    let marks = c.in_ok-push_qualifiers.ensures
    ∙ ap (λ (w : List ℕ). w ++ qualifier_letters q) c.new-text.ensures in
    let spelled : c.push_outermost.new.out ≡ encoding_spelling e =
    c.in_ok-push_outermost.ensures ∙ ap (λ (w : List ℕ). w ++ outermost_spelling t) marks in
    subst (λ (v : QualifiedType). IsEncoding c.push_outermost.new.out v) c.self.view_is
    (alone_printed c.push_outermost.new.out e spelled c.self.invariant)
