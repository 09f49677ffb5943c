use Rattle.do_sig.proofs.signature.arguments.+args_of.Given as goal

abbrev pub decreases-args_of : goal.decreases-args_of
decreases-args_of l = l.left
