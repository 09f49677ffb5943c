use Rattle.do_network.proofs.laws.fits.fitting_frames_have_no_fault.Goals as goal
use Rattle.do_network.proofs.NoFault.{fits_faultless}

pub returns : goal.returns
returns c table N S F port from p q h k apart here x xs first =
    fits_faultless table N S F port from p q h k apart here x xs first
