use Rattle.do_served.proofs.node.serve_given.Goals as goal
use Rattle.std.proofs.Common.{refl}
use Rattle.do_given.specs.Serving.{GivesServed, RefusesServed}
use Rattle.do_output.proofs.ToldMore.{tells_none}
use Rattle.do_served.{specs.Nodes.Seens, proofs.Comings.{comes_ended, comes_stopped}}
use Rattle.do_served.proofs.Refused.{served_ended, served_refused}

pub returns-in-Err-clause-serves : goal.returns-in-Err-clause-serves
returns-in-Err-clause-serves g c =
    comes_stopped (λ files. GivesServed files c.args.port c.args.world.now c.args.starts.now)
    (λ files. RefusesServed files c.args.port c.args.world.now c.args.starts.now) _ _ _ _
    c.in-Err.status (served_refused _ c.args.port c.args.world.now c.args.starts.now)
    (tells_none _, refl) c.in-Err.ensures.stopped
    (λ files st is no. c.in-Err.ensures.refuses files st is no)
    (λ files x is given. c.in-Err.ensures.accepts files x is given)

pub returns-in-Ok-clause-serves : goal.returns-in-Ok-clause-serves
returns-in-Ok-clause-serves g c =
    let old : Seens = record {
      told = g.L.Link.told c.args.link.now;
      written = g.K.Sink.written c.args.out.now;
      link = g.L.Link.faults c.args.link.now;
      output = g.K.Sink.faults c.args.out.now;
    } in
    let new : Seens = record {
      told = g.L.Link.told c.serve_read.new.link;
      written = g.K.Sink.written c.serve_read.new.out;
      link = g.L.Link.faults c.serve_read.new.link;
      output = g.K.Sink.faults c.serve_read.new.out;
    } in
    comes_ended (λ files. GivesServed files c.args.port c.args.world.now c.args.starts.now)
    (λ files. RefusesServed files c.args.port c.args.world.now c.args.starts.now) _ _ _ _
    c.in-Ok.served c.serve_read.result c.in-Ok.ensures.gives
    (λ st ended. served_ended c.args.turns old new c.in-Ok.served st ended)
    c.serve_read.ensures.ended
    (λ files st is no. c.in-Ok.ensures.refuses files st is no)
    (λ files y is given. c.in-Ok.ensures.accepts files y is given)
