use Rattle.do_site.proofs.work.Work.read.Goals as goal
use Rattle.do_streams.specs.Reading.{names_of}
use Rattle.do_site.proofs.KindsRead.{reading_has_kind}

-- what is read has the kind of the frame's number
pub returns-clause-kind : goal.returns-clause-kind
returns-clause-kind c =
    reading_has_kind c.args.table.now c.args.from c.port-port.result
    (names_of c.args.self.now.core.streams.links c.args.from) c.args.raw.now c.read.result
    c.read.ensures.read
