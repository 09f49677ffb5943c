use Rattle.do_sig.proofs.signature.Signature.print.Goals as goal
use Rattle.std.proofs.Common.{◌≡◌, subst}
use Rattle.do_sig.specs.{MethodTypes.MethodType, Signatures.IsSignature}
use Rattle.do_sig.specs.Spelling.{signature_spelling}
use Rattle.do_sig.proofs.SignaturePrinted.{signature_printed, pieces_spelled}

pub returns-clause-again : goal.returns-clause-again
returns-clause-again c =
    let s : MethodType = record { returned = c.self.inside.returned; args = c.self.inside.args } in
    let spelled : c.push_encodings.new.out ≡ signature_spelling s =
    pieces_spelled s c.new-text.result c.push_encoding.new.out c.push.new.self c.push-2.new.self
    c.push_encodings.new.out c.new-text.ensures c.in_ok-push_encoding.ensures
    c.in_ok-push.ensures.ok c.in_ok-push-2.ensures.ok c.in_ok-push_encodings.ensures in
    subst (λ (v : MethodType). IsSignature c.push_encodings.new.out v) c.self.view_is
    (signature_printed c.push_encodings.new.out s spelled c.self.invariant)
