use Rattle.do_net.proofs.host.Host.hand.Goals as goal
use Rattle.do_net.proofs.ShowLoop.{sent_ready, sent_spelled}

pub forward-requires : goal.forward-requires
forward-requires g c =
    sent_ready (g.S.Hosted.seen c.args.self.now.site) (g.S.Hosted.seen c.handle.new.self)
    (g.S.Hosted.seen c.fetch_shown.new.site) c.args.input.now c.requires.0 c.in_ok-done.ensures.site
    c.in_ok-fetch_shown.ensures.site

pub returns-clause-spelled : goal.returns-clause-spelled
returns-clause-spelled g c =
    sent_spelled (g.S.Hosted.seen c.args.self.now.site) (g.S.Hosted.seen c.handle.new.self)
    (g.S.Hosted.seen c.fetch_shown.new.site) c.args.input.now c.requires.0 c.in_ok-done.ensures.site
    c.in_ok-fetch_shown.ensures.site c.in_ok-forward.ensures.spelled
