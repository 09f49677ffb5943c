use Rattle.do_frames.proofs.payload.selector.+later_of.Given as goal

abbrev pub decreases-later_of : goal.decreases-later_of
decreases-later_of l = l.left
