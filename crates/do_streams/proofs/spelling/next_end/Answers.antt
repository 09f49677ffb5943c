use Rattle.do_streams.proofs.spelling.next_end.Goals as goal
use Rattle.std.{proofs.Common.{◌∙◌, ap, sym}, specs.Option.option_copied}
use Rattle.do_streams.proofs.WaitingFrames.{front_place, none_oldest}

-- the oldest frame goes to one of the ports
pub returns-clause-which : goal.returns-clause-which
returns-clause-which c =
    front_place c.args.ports.now c.args.waiting.now.frames c.in-Some.next.now c.place.result
    (sym (c.in-Some.ensures ∙ c.requires.oldest)) c.requires.placed c.place.ensures.index

-- where there is none no frame waits
pub returns-in_default-clause-which : goal.returns-in_default-clause-which
returns-in_default-clause-which c =
    none_oldest c.args.waiting.now.frames
    (sym (ap option_copied c.in_default.is) ∙ c.oldest.ensures ∙ c.requires.oldest)
