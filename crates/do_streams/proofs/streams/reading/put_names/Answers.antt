use Rattle.do_streams.proofs.streams.reading.put_names.Goals as goal
use Rattle.std.proofs.Common.{◌∙◌, ap, sym}
use Rattle.do_streams.specs.{declared.end.End.End, Streamed.link_of}
use Rattle.do_streams.proofs.{FramesInOrder.changed, LinksRead.{reads, unlinked}}
use Rattle.do_streams.proofs.WaitingFrames.{as_many, end_at, ports_of_set}

-- there is an end for each port
pub at_mut-requires : goal.at_mut-requires
at_mut-requires c =
    as_many c.args.ports.now c.args.ends.now c.requires.ordered c.in-Some.at
    c.in-Some.ensures.within

-- the link of the end reads by the names
pub returns-clause-ends : goal.returns-clause-ends
returns-clause-ends c =
    sym (changed c.args.ends.now c.args.from c.in-Some.at c.at_mut.result.now c.put_names.new.self
    (end_at c.args.ports.now c.args.ends.now c.requires.ordered c.args.from
    ∙ sym c.place.ensures.index ∙ c.in-Some.is) c.at_mut.ensures.value
    (reads (λ old. c.args.names)) (sym (ap link_of c.put_names.ensures)))

-- and goes to the same peer
pub returns-clause-still : goal.returns-clause-still
returns-clause-still c =
    ports_of_set c.args.ports.now c.args.ends.now c.requires.ordered c.in-Some.at
    c.at_mut.result.now c.put_names.new.self c.at_mut.ensures.value
    (ap (λ (e : End). e.peer) c.put_names.ensures)

-- where there is none nothing changes
pub returns-in_default-clause-ends : goal.returns-in_default-clause-ends
returns-in_default-clause-ends c =
    unlinked c.args.ends.now c.args.from (λ old. c.args.names)
    (end_at c.args.ports.now c.args.ends.now c.requires.ordered c.args.from
    ∙ sym c.place.ensures.index ∙ c.in_default.is)
