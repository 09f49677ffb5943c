use Rattle.do_streams.proofs.streams.Streams.peers.Goals as goal
use Rattle.std.proofs.Common.{◌∙◌, ap, map, sym}
use Rattle.do_network.specs.Links.{Link}
use Rattle.do_streams.specs.Streamed.{Streamed, posted_of}
use Rattle.do_streams.proofs.{LinksRead.peers_of, Placed.if_ok}

-- the links have the peers of the ends, also behind what waits
pub returns : goal.returns
returns c =
    if_ok c.listed_peers.result (λ peers same. same
    ∙ sym (peers_of c.self.inside.ends (map posted_of c.self.inside.waiting.frames))
    ∙ ap (λ (v : Streamed). map (λ (l : Link). l.peer) v.links) c.self.view_is)
    c.listed_peers.ensures
