use Rattle.do_streams.proofs.streams.Streams.read.Goals as goal
use Rattle.std.proofs.{Common.{◌≡◌, ◌∙◌, [], ap, map, subst, sym}, lemmas.Bool.false≢true}
use Rattle.do_network.specs.Frames.{read_frame}
use Rattle.do_streams.specs.{Reading.{IsReading, names_of}, Streamed.{Streamed, link_of, posted_of}}
use Rattle.do_streams.proofs.{LinksRead.names_stay, WaitingFrames.alone_names_none}

-- whatever was named, a frame that carries no packet is read so
pub returns-then-not-names_objects-clause-read : goal.returns-then-not-names_objects-clause-read
returns-then-not-names_objects-clause-read c =
    c.read_plain.ensures.read (names_of c.args.self.now.links c.args.from)

-- the names of the link are those of the end, since what waits leaves them
pub returns-clause-read : goal.returns-clause-read
returns-clause-read c =
    let same : c.in-Ok.names ≡ names_of c.args.self.now.links c.args.from =
    c.in-Ok.ensures.names
    ∙ sym (names_stay c.args.from (record { links = map link_of c.self.inside.ends; sent = [] })
    (map posted_of c.self.inside.waiting.frames))
    ∙ ap (λ (v : Streamed). names_of v.links c.args.from) c.self.view_is in
    subst (λ names. IsReading names (read_frame c.args.table.now c.args.from c.args.to names
    c.args.raw.now) c.read_with_names.result) same c.read_with_names.ensures.read

-- a frame that holds numbers alone carries no packet
pub returns-clause-no_memory : goal.returns-clause-no_memory
returns-clause-no_memory c = λ alone.
    let none = alone_names_none c.args.raw.now.kind alone in
    absurd (false≢true (sym none ∙ sym c.names_objects.ensures ∙ c.if-not-names_objects.false))
