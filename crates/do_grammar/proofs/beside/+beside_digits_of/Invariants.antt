use Rattle.do_grammar.proofs.beside.+beside_digits_of.Given as goal

abbrev pub decreases-beside_digits_of : goal.decreases-beside_digits_of
decreases-beside_digits_of l = l.k
