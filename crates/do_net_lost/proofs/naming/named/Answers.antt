use Rattle.do_net_lost.proofs.naming.named.Goals as goal
use Rattle.std.{proofs.Common.{◌≡◌, ◌∙◌, ◌++◌, ℕ, List, ap, refl}, specs.List.flat_map}
use Rattle.do_base.specs.names.Names.{ObjectName}
use Rattle.do_machine.specs.World.{others}
use Rattle.do_net.specs.Net.{network}
use Rattle.do_net_named.specs.{Named.{net_named, part_names, told_in}, Waiting.way_names}
use Rattle.do_net_named.proofs.StandsNamed.{named_as_one}
use Rattle.do_network.specs.Net.{part_at}
use Rattle.do_packet.specs.Met.{has_object}
use Rattle.do_net_lost.proofs.OneMore.{named_whole}

-- what sites, ways and closed ends name is what the network names
pub returns-clause-names : goal.returns-clause-names
returns-clause-names g c = λ o.
    let N = network g.S.Hosted.seen c.args.net.now in
    let ports : List ℕ = c.in_ok-ports.ports in
    let sites : List ObjectName = flat_map (λ port. part_names (part_at N port)) ports in
    let ways : List ObjectName =
    flat_map (λ from. flat_map (way_names c.args.net.now.table N from) (others ports from)) ports in
    let told : List ObjectName = flat_map (told_in N) c.args.listed.now.nodes in
    let whole : sites ++ ways ++ told ≡ net_named c.args.net.now.table N =
    rw (c.in_ok-ports.ensures, c.requires.listed) refl in
    named_whole o c.new-objects.result c.push_sites.new.objects c.push_ways.new.objects
    c.push_told.new.objects sites ways told c.new-objects.ensures (c.in_ok-push_sites.ensures o)
    c.in_ok-push_ways.ensures c.in_ok-push_told.ensures
    ∙ ap (λ os. has_object os o) whole

-- which is what the state names
pub returns-clause-one_machine : goal.returns-clause-one_machine
returns-clause-one_machine g c = λ state stands o.
    returns-clause-names g c o
    ∙ named_as_one c.args.net.now.table (g.S.Acts.Behaviour.act c.args.net.now.acts)
    (network g.S.Hosted.seen c.args.net.now) state stands o
