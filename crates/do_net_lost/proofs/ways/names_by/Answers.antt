use Rattle.do_net_lost.proofs.ways.names_by.Goals as goal
use Rattle.std.{proofs.Common.{List, length, subst}, specs.Prelude.IfOk}
use Rattle.do_class.specs.Class.{Class}
use Rattle.do_streams.specs.Reading.{AreKnown}

-- the site has the classes that all have
pub returns-in-Some-clause-known : goal.returns-in-Some-clause-known
returns-in-Some-clause-known g c = λ act stands whole.
    subst (λ (t : List Class). IfOk c.names_read.result (λ names. AreKnown (length t) names))
    (c.in-Some.ensures.table act stands whole) c.names_read.ensures.known
