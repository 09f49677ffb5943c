use Rattle.do_network.proofs.laws.fits.fitting_sites_judge_alike.Goals as goal
use Rattle.do_network.proofs.{CountsAreEntries.fits_sees, JudgedAlike.context_alike}

pub returns : goal.returns
returns c table N S port p F h = context_alike table S p.own (fits_sees table N S F port p h)
