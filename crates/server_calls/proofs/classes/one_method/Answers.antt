use Rattle.server_calls.proofs.classes.one_method.Goals as goal
use Rattle.std.{proofs.Common.{◌≡◌, rules}, specs.Prelude.IsTrue}
use Rattle.do_grammar.specs.Names.{is_selector, colons}
use Rattle.do_sig.specs.Calls.{arg_count}
use Rattle.server_calls.proofs.OneMethod.{one_alone}

-- the selector of the method is one with a colon for each argument
pub returns : goal.returns
returns c =
    let s = c.in_ok-selector.selector in
    let selects : IsTrue (is_selector s) = search rules in
    let fits : colons s ≡ arg_count c.in_ok-signature.signature = search rules in
    rw c.in_ok-push.ensures.ok (one_alone _ _ c.new-methods.ensures selects fits)
