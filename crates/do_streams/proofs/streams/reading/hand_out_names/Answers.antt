use Rattle.do_streams.proofs.streams.reading.hand_out_names.Goals as goal
use Rattle.do_machine.proofs.FirstPlace.{found_at, found_none}
use Rattle.std.{proofs.Common.{◌==◌, ◌∙◌, ap, subst, sym}, specs.Prelude.slice_set}
use Rattle.do_streams.specs.{declared.end.End.End, Reading.AreKnown}
use Rattle.do_streams.proofs.{LinksRead.{all_at, names_found, names_none}, Placed.{if_ok, set_same}}
use Rattle.do_streams.proofs.WaitingFrames.{as_many, end_at}

-- there is an end for each port
pub at_mut-requires : goal.at_mut-requires
at_mut-requires c =
    as_many c.args.ports.now c.args.ends.now c.requires.ordered c.in-Some.at
    c.in-Some.ensures.within

-- the names are those of the end that is found
pub returns-in-Some-clause-names : goal.returns-in-Some-clause-names
returns-in-Some-clause-names c =
    if_ok c.hand_out_names.result (λ names same. same
    ∙ names_found c.args.ends.now c.args.from c.at_mut.result.now
    (found_at (λ (e : End). c.args.from == e.peer) c.args.ends.now c.in-Some.at
    c.at_mut.result.now (end_at c.args.ports.now c.args.ends.now c.requires.ordered c.args.from
    ∙ sym c.place.ensures.index ∙ c.in-Some.is) c.at_mut.ensures.value))
    c.hand_out_names.ensures.names

-- and these are of so many classes
pub returns-in-Some-clause-known : goal.returns-in-Some-clause-known
returns-in-Some-clause-known c =
    if_ok c.hand_out_names.result (λ names same. subst (AreKnown c.args.classes) (sym same)
    (all_at (λ (e : End). AreKnown c.args.classes e.read) c.args.ends.now c.in-Some.at
    c.at_mut.result.now c.requires.known c.at_mut.ensures.value)) c.hand_out_names.ensures.names

-- the end that hands its table out stays
pub returns-in-Some-clause-same : goal.returns-in-Some-clause-same
returns-in-Some-clause-same c =
    ap (slice_set c.args.ends.now c.in-Some.at) c.hand_out_names.ensures.same
    ∙ set_same c.args.ends.now c.in-Some.at c.at_mut.result.now c.at_mut.ensures.value

-- where there is no end there are no names
pub returns-in-None-clause-names : goal.returns-in-None-clause-names
returns-in-None-clause-names c =
    c.new.ensures
    ∙ names_none c.args.ends.now c.args.from
    (found_none (λ (e : End). c.args.from == e.peer) c.args.ends.now
    (end_at c.args.ports.now c.args.ends.now c.requires.ordered c.args.from
    ∙ sym c.place.ensures.index ∙ c.in-None.is))
