use Rattle.do_net.proofs.hosts.hand_kept.Goals as goal

-- what is handed is the input that was made of what was taken
pub returns : goal.returns
returns g c table act rest = rw (← c.input_of-input.ensures) (c.hand.ensures table act rest)
