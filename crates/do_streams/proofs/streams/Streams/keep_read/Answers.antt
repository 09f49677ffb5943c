use Rattle.do_streams.proofs.streams.Streams.keep_read.Goals as goal
use Rattle.std.{proofs.Common.{◌∙◌, ◌++◌, List, Option, ap, map, sym}, specs.Prelude.unwrap_or}
use Rattle.do_coder.specs.declared.recent.pair.Pair.{Pair}
use Rattle.do_network.specs.Links.{Outbox, change_link}
use Rattle.do_streams.specs.Reading.{names_of}
use Rattle.do_streams.specs.Streamed.{Streamed, outbox_of, posted_of, spelled_first}
use Rattle.do_streams.proofs.LinksRead.{kept_outbox, keeps_names, keeps_none, reads}

-- the link reads by the names after the frame, also behind what waits
pub returns-clause-links : goal.returns-clause-links
returns-clause-links c = λ frame read.
    ap (λ (o : Outbox). o.links)
    (kept_outbox c.self.inside.ends c.put_names.new.ends c.args.from c.in-Some.later
    (map posted_of c.self.inside.waiting.frames) c.put_names.ensures.ends)
    ∙ ap (λ (v : Streamed). change_link c.args.from (reads (λ old. c.in-Some.later)) v.links)
    c.self.view_is
    ∙ keeps_names c.args.self.now.links c.args.from frame c.in-Some.later
    (ap (λ (o : Option (List Pair)). unwrap_or o (names_of c.args.self.now.links c.args.from))
    (sym c.in-Some.is) ∙ read)

-- and what waits is as before
pub returns-clause-same : goal.returns-clause-same
returns-clause-same c = λ j. record {
  links = (outbox_of c.put_names.new.ends c.self.inside.waiting.frames).links;
  frames = (ap (λ (o : Outbox). spelled_first c.self.inside.spelled ++ o.sent)
      (kept_outbox c.self.inside.ends c.put_names.new.ends c.args.from c.in-Some.later
      (map posted_of c.self.inside.waiting.frames) c.put_names.ensures.ends)
      ∙ ap (λ (v : Streamed). v.frames) c.self.view_is) j;
  shown = ap (λ (v : Streamed). v.shown) c.self.view_is j;
  room = ap (λ (v : Streamed). v.room) c.self.view_is j;
  bare = ap (λ (v : Streamed). v.bare) c.self.view_is j;
  classes = ap (λ (v : Streamed). v.classes) c.self.view_is j;
}

-- a frame that leaves the names leaves the link
pub returns-in_default-clause-links : goal.returns-in_default-clause-links
returns-in_default-clause-links c = λ frame read.
    keeps_none c.args.self.now.links c.args.from frame
    (ap (λ (o : Option (List Pair)). unwrap_or o (names_of c.args.self.now.links c.args.from))
    (sym c.in_default.is) ∙ read)
