use Rattle.do_streams.proofs.streams.Streams.names_read.Goals as goal
use Rattle.std.proofs.Common.{◌∙◌, [], ap, map, sym}
use Rattle.do_streams.specs.{Reading.names_of, Streamed.{Streamed, link_of, posted_of}}
use Rattle.do_streams.proofs.{LinksRead.names_stay, Placed.if_ok}

-- the names of the link are those of the end, since what waits leaves them
pub returns-clause-names : goal.returns-clause-names
returns-clause-names c =
    if_ok c.names_in.result (λ names same. same
    ∙ sym (names_stay c.args.from (record { links = map link_of c.self.inside.ends; sent = [] })
    (map posted_of c.self.inside.waiting.frames))
    ∙ ap (λ (v : Streamed). names_of v.links c.args.from) c.self.view_is) c.names_in.ensures.names
