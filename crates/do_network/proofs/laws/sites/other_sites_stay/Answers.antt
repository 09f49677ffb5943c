use Rattle.do_network.proofs.laws.sites.other_sites_stay.Goals as goal
use Rattle.std.{proofs.Common.ap, specs.Prelude.option_map}
use Rattle.do_network.proofs.OtherPlaces.{elsewhere}

pub returns : goal.returns
returns c port other N h apart =
    ap (λ found. option_map (λ x. x.part) found) (elsewhere port other h N.places apart)
