use Rattle.do_net_named.proofs.laws.searches_find_the_same.Goals as goal
use Rattle.do_net_named.proofs.StandsNamed.{classes_as_one, leaks_as_one, still_as_one}

pub returns-clause-leaks : goal.returns-clause-leaks
returns-clause-leaks c = leaks_as_one

pub returns-clause-classes : goal.returns-clause-classes
returns-clause-classes c = classes_as_one

pub returns-clause-quiet : goal.returns-clause-quiet
returns-clause-quiet c = still_as_one
