use Rattle.do_net_lost.proofs.text.lost_text.Goals as goal
use Rattle.std.proofs.Common.{◌∙◌, rules}
use Rattle.do_net.specs.Net.{network}
use Rattle.do_net_lost.proofs.TextAlike.{text_as_one}

-- the text is that of the network
pub returns-clause-text : goal.returns-clause-text
returns-clause-text g c = search rules

-- which is that of the state
pub returns-clause-one_machine : goal.returns-clause-one_machine
returns-clause-one_machine g c = λ state stands.
    returns-clause-text g c
    ∙ text_as_one c.args.net.now.table (g.S.Acts.Behaviour.act c.args.net.now.acts)
    (network g.S.Hosted.seen c.args.net.now) state stands
