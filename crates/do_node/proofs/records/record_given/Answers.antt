use Rattle.do_node.proofs.records.record_given.Goals as goal
use Rattle.std.proofs.Common.{Ok}
use Rattle.do_node.specs.Records.{IsNoRecord, IsRecord}
use Rattle.do_given.proofs.FilesTold.{none_answered, or_unread, text_answered}

pub returns-clause-refuses : goal.returns-clause-refuses
returns-clause-refuses g c = λ files status is none.
    none_answered (IsNoRecord c.args.seats.now c.args.earlier.now) files _ _ _ _
    (λ bytes file. c.in_ok-bytes.ensures.fits files bytes is file)
    (λ st long. c.in_ok-bytes.ensures.long files st is long)
    (λ st refused. or_unread _ _
    (c.record_in.ensures.refuses st (rw c.as_slice.ensures refused))) status none

pub returns-clause-accepts : goal.returns-clause-accepts
returns-clause-accepts g c = λ files r is says.
    text_answered (IsRecord c.args.seats.now c.args.earlier.now) files _ _ _ (λ x. Ok x) _
    (λ bytes file. c.in_ok-bytes.ensures.fits files bytes is file)
    (λ x read. or_unread _ _
    (c.record_in.ensures.accepts x (rw c.as_slice.ensures read))) r says
