use Rattle.do_streams.proofs.streams.reading.names_in.Goals as goal
use Rattle.do_machine.proofs.FirstPlace.{found_at, found_none}
use Rattle.std.proofs.Common.{◌==◌, ◌∙◌, subst, sym}
use Rattle.do_streams.specs.{declared.end.End.End, Reading.AreKnown}
use Rattle.do_streams.proofs.{LinksRead.{all_at, names_found, names_none}, Placed.if_ok}
use Rattle.do_streams.proofs.WaitingFrames.{as_many, end_at}

-- there is an end for each port
pub end_in-requires : goal.end_in-requires
end_in-requires c =
    as_many c.args.ports.now c.args.ends.now c.requires.ordered c.in-Some.at
    c.in-Some.ensures.within

-- the names are those of the end that is found
pub returns-in-Some-clause-names : goal.returns-in-Some-clause-names
returns-in-Some-clause-names c =
    if_ok c.copy.result (λ names same. same
    ∙ names_found c.args.ends.now c.args.from c.end_in.result.now
    (found_at (λ (e : End). c.args.from == e.peer) c.args.ends.now c.in-Some.at
    c.end_in.result.now (end_at c.args.ports.now c.args.ends.now c.requires.ordered c.args.from
    ∙ sym c.place.ensures.index ∙ c.in-Some.is) c.end_in.ensures)) c.copy.ensures

-- and these are of so many classes
pub returns-in-Some-clause-known : goal.returns-in-Some-clause-known
returns-in-Some-clause-known c =
    if_ok c.copy.result (λ names same. subst (AreKnown c.args.classes) (sym same)
    (all_at (λ (e : End). AreKnown c.args.classes e.read) c.args.ends.now c.in-Some.at
    c.end_in.result.now c.requires.known c.end_in.ensures)) c.copy.ensures

-- where there is no end there are no names
pub returns-in-None-clause-names : goal.returns-in-None-clause-names
returns-in-None-clause-names c =
    c.new.ensures
    ∙ names_none c.args.ends.now c.args.from
    (found_none (λ (e : End). c.args.from == e.peer) c.args.ends.now
    (end_at c.args.ports.now c.args.ends.now c.requires.ordered c.args.from
    ∙ sym c.place.ensures.index ∙ c.in-None.is))
