use Rattle.do_network.proofs.laws.fits.opening_fits.Goals as goal
use Rattle.do_network.proofs.OpeningFits.{opening_fits}

pub returns : goal.returns
returns c table seats = opening_fits table seats
