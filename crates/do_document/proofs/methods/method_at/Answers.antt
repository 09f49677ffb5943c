use Rattle.do_document.proofs.methods.method_at.Goals as goal
use Rattle.std.proofs.{Common.{◌≡◌, ◌==◌, arith, false, true}, lemmas.Bool.Decides.nat_tests}
use Rattle.std.proofs.lemmas.{Grind.common_steps, Result.err_from_is_err_and}
use Rattle.do_grammar.specs.Names.{colons}
use Rattle.do_sig.specs.Calls.{arg_count}
use Rattle.do_document.proofs.InOrder.{method_count, method_good, method_selector, method_types}
use Rattle.do_document.proofs.InOrder.{method_unknown}

pub returns-in_err-known_keys : goal.returns-in_err-known_keys
returns-in_err-known_keys c =
    let p = err_from_is_err_and c.from_residual.result c.from_residual.ensures.1 in
    rw (p.1, p.2) (method_unknown _ _ _ _ c.in_err-known_keys.field-0.0 c.in_err-known_keys.ensures)

pub returns-in_err-selector : goal.returns-in_err-selector
returns-in_err-selector c =
    let p = err_from_is_err_and c.from_residual-in_err-selector.result
    c.from_residual-in_err-selector.ensures.1 in
    rw (p.1, p.2) (method_selector _ _ _ _ c.in_err-selector.field-0.0 c.in_ok-known_keys.ensures.0
    c.in_err-selector.ensures)

pub returns-in_err-signature : goal.returns-in_err-signature
returns-in_err-signature c =
    let p = err_from_is_err_and c.from_residual-in_err-signature.result
    c.from_residual-in_err-signature.ensures.1 in
    rw (p.1, p.2) (method_types _ _ _ _ c.in_err-signature.field-0.0 c.in_ok-known_keys.ensures.0
    c.in_ok-selector.ensures.0 c.in_err-signature.ensures)

pub returns-then-not-is_counted : goal.returns-then-not-is_counted
returns-then-not-is_counted c =
    let other : (arg_count c.in_ok-signature.signature == colons c.in_ok-selector.selector)
    ≡ false =
    grind (arith, common_steps, c.if-not-is_counted.true, c.is_counted.ensures) in
    method_count _ _ _ _ c.in_ok-selector.selector c.in_ok-signature.signature _
    c.in_ok-known_keys.ensures.0 c.in_ok-selector.ensures.0 c.in_ok-signature.ensures.0
    c.in_ok-selector.ensures.1.0 c.in_ok-signature.ensures.1.0 other c.wrong.ensures

pub returns : goal.returns
returns c =
    let same : (arg_count c.in_ok-signature.signature == colons c.in_ok-selector.selector) ≡ true =
    grind (arith, common_steps, c.if-not-is_counted.false, c.is_counted.ensures) in
    let equal : colons c.in_ok-selector.selector ≡ arg_count c.in_ok-signature.signature =
    grind (arith, nat_tests, same) in
    let good =
    method_good _ c.args.place c.args.methods.now _ c.in_ok-selector.selector
    c.in_ok-signature.signature c.in_ok-known_keys.ensures.0 c.in_ok-selector.ensures.0
    c.in_ok-signature.ensures.0 c.in_ok-selector.ensures.1.0 c.in_ok-signature.ensures.1.0 same in (
      good.0,
      record {
        said = good.1;
        new = c.in_ok-selector.ensures.1.1;
        counted = equal;
        typed = c.in_ok-signature.ensures.1.1;
      },
    )
