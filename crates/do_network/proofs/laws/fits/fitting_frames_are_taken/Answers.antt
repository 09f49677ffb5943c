use Rattle.do_network.proofs.laws.fits.fitting_frames_are_taken.Goals as goal
use Rattle.do_network.proofs.FramesRead.{fits_taken}

pub returns : goal.returns
returns c table t act N S F port from p h can d stands f rest waits =
    fits_taken table t act N S F port from p h can d stands f rest waits
