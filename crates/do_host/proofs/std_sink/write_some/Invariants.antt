-- An interrupted write wrote nothing.
use Rattle.do_host.proofs.std_sink.write_some.Given as goal
use Rattle.std.specs.Io.KnownBytes.{Keeps}

abbrev pub invariant-loop : goal.invariant-loop
invariant-loop g l = Keeps (g.W.Write.contents l.initial.out) (g.W.Write.contents l.out)
