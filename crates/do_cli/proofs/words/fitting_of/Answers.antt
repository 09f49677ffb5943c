use Rattle.do_cli.proofs.words.fitting_of.Goals as goal
use Rattle.std.proofs.{Common.{◌≡◌, ◌<◌, ◌∙◌, ap, arith, drop, length, sym}, lemmas.List.take_rest}
use Rattle.do_cli.specs.Forms.{fitting, kinds_of, more_of}
use Rattle.do_cli.proofs.FittingOn.{fitting_short, fitting_whole}

pub returns-then-needed-kinds-clause-value : goal.returns-then-needed-kinds-clause-value
returns-then-needed-kinds-clause-value c =
    let form = c.args.form in
    let words = c.args.words.now in
    let is : c.fitting-needed.result ≡ fitting (kinds_of form) words =
    rw c.kinds.ensures at c.fitting-needed.ensures.value in
    let few : c.fitting-needed.result < length (kinds_of form) =
    rw c.kinds-2.ensures at c.if-needed-kinds.true in
    is ∙ sym (fitting_short (kinds_of form) (more_of form) words (rw is at few))

pub returns-clause-value : goal.returns-clause-value
returns-clause-value c =
    let form = c.args.form in
    let words = c.args.words.now in
    let needed = c.fitting-needed in
    let is : needed.result ≡ fitting (kinds_of form) words =
    rw c.kinds.ensures at needed.ensures.value in
    let all : needed.result ≡ length (kinds_of form) =
    omega (
      arith,
      rw c.kinds-2.ensures at c.if-needed-kinds.false,
      rw c.kinds.ensures at needed.ensures.kinds,
    ) in
    let more : c.fitting.result ≡ fitting (more_of form) (drop needed.result words) =
    rw c.more.ensures at (c.fitting.ensures.value
    ∙ ap (fitting c.more.result.now) (take_rest words needed.result)) in
    omega (
      arith,
      rw all at more,
      all,
      fitting_whole (kinds_of form) (more_of form) words (sym is ∙ all),
    )
