use Rattle.do_net.proofs.net.Net.quiet.Goals as goal
use Rattle.std.{proofs.Common.{◌==◌, ◌∙◌, length}, specs.List.list_all}
use Rattle.do_net.{specs.Hosts.hosting, proofs.ListedPlaces.all_listed}

pub returns : goal.returns
returns g c =
    c.are_quiet.ensures
    ∙ all_listed (hosting g.S.Hosted.seen) (λ cs. list_all (λ x. length x.waiting == 0) cs)
    c.args.self.now.hosts.items
