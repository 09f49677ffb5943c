use Rattle.do_ported.proofs.rising.place_of.Goals as goal
use Rattle.std.proofs.Common.{rules, ◌≡◌, ◌==◌, ◌∙◌, Some, None, true, false, subst}
use Rattle.std.specs.Prelude.{slice_get}
use Rattle.do_ported.proofs.ByHalves.{first_there, none_there}

-- no element stands there
pub returns-in_err-item-clause-index : goal.returns-in_err-item-clause-index
returns-in_err-item-clause-index g c =
    let items = c.args.items.now in
    let missing : slice_get items c.end_of_lower-at.result ≡ None = search rules in
    let none : c.from_residual.result ≡ None = search rules in
    none ∙ none_there g.T.Ported.port c.args.port items c.end_of_lower-at.result c.requires
    c.end_of_lower-at.ensures (λ x there. absurd (cc))

-- one of another port does
pub returns-then-ne-clause-index : goal.returns-then-ne-clause-index
returns-then-ne-clause-index g c =
    let n = g.T.Ported.port in
    let items = c.args.items.now in
    let item = c.in_ok-item.item.now in
    let found : slice_get items c.end_of_lower-at.result ≡ Some item = search rules in
    let other : (c.args.port == n item) ≡ false = search rules in
    none_there n c.args.port items c.end_of_lower-at.result c.requires c.end_of_lower-at.ensures
    (λ x there. let same : item ≡ x = cc in subst (λ y. (c.args.port == n y) ≡ false) same other)

-- or one of the port
pub returns-clause-index : goal.returns-clause-index
returns-clause-index g c =
    let item = c.in_ok-item.item.now in
    let found : slice_get c.args.items.now c.end_of_lower-at.result ≡ Some item = search rules in
    let same : (c.args.port == g.T.Ported.port item) ≡ true = search rules in
    first_there g.T.Ported.port c.args.port c.args.items.now c.end_of_lower-at.result item
    c.end_of_lower-at.ensures found same
