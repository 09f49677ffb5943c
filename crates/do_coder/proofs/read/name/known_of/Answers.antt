use Rattle.do_coder.proofs.read.name.known_of.Goals as goal
use Rattle.std.proofs.Common.{◌≡◌, Some, refl, ap, ◌∙◌, arith}
use Rattle.do_coder.specs.{declared.recent.pair.Pair.Pair, Recent.place_in}
use Rattle.do_coder.proofs.tables.TableLaws.{got_place}

pub returns-clause-stays : goal.returns-clause-stays
returns-clause-stays c =
    let table = c.args.recent.now.now in
    let most = c.in_ok-k.ensures.exact.spelled.at_most in
    let some = c.requires in
    let len = c.len.ensures.value in
    let at : place_in c.at-pair.result table ≡ Some c.in_ok-k.k =
    ap (λ (w : Pair). place_in w table) c.at-pair.ensures
    ∙ got_place table c.in_ok-k.k c.len.ensures.recent.differ (omega arith) in
    rw at refl
