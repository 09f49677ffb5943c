use Rattle.do_net.proofs.host.Host.forward.Goals as goal
use Rattle.std.proofs.Common.{rules}
use Rattle.do_net.{specs.Hosts.hosting, proofs.ForwardLoop.forwards_more}

-- a frame more was fetched, went into its channel and was sent
pub loop-wire-preserved : goal.loop-wire-preserved
loop-wire-preserved g c =
    let seen = g.S.Hosted.seen in
    forwards_more (hosting seen c.args.self.now) (hosting seen c.loop-wire.self)
    (hosting seen c.fetch_sent.new.self)
    (hosting seen (record c.fetch_sent.new.self { lanes = c.carry.new.self }))
    c.args.wires.now.items
    c.loop-wire.wires.items c.post.new.self.items c.in-Some.wire c.loop-wire.invariant
    (search rules) (search rules) (search rules) (search rules)
