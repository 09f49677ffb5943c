use Rattle.do_given.proofs.worlds.world_in_file.Goals as goal
use Rattle.std.proofs.Common.{Ok}
use Rattle.do_world.specs.Reading.{IsWorldText}
use Rattle.do_given.specs.Reading.{IsNoWorld}
use Rattle.do_given.proofs.FilesTold.{none_answered, or_unread, text_answered}

pub returns-clause-refuses : goal.returns-clause-refuses
returns-clause-refuses g c = λ files status is none.
    none_answered IsNoWorld files _ _ _ _
    (λ bytes file. c.in_ok-bytes.ensures.fits files bytes is file)
    (λ st long. c.in_ok-bytes.ensures.long files st is long)
    (λ st refused. or_unread _ _
    (c.world_said.ensures.refuses st (rw c.as_slice.ensures refused))) status none

pub returns-clause-accepts : goal.returns-clause-accepts
returns-clause-accepts g c = λ files said is says.
    text_answered IsWorldText files _ _ _ (λ world. Ok world) _
    (λ bytes file. c.in_ok-bytes.ensures.fits files bytes is file)
    (λ world read. or_unread _ _
    (c.world_said.ensures.accepts world (rw c.as_slice.ensures read))) said says
