use Rattle.do_site.proofs.opening.opening.Goals as goal
use Rattle.std.proofs.Common.{◌∙◌, ap}
use Rattle.do_effects.specs.Doing.{Doing}
use Rattle.do_site.proofs.{ActsDone.same_kept, PlacesKept.made_places}

-- making room leaves what the node has
pub returns-clause-part : goal.returns-clause-part
returns-clause-part c =
    ap (λ (d : Doing). record { own = d.own; links = d.out.links }) c.in-Ok.ensures.same
    ∙ c.in_ok-work.ensures.part

-- and what waits
pub returns-clause-frames : goal.returns-clause-frames
returns-clause-frames c =
    ap (λ (d : Doing). d.out.sent) c.in-Ok.ensures.same ∙ c.in_ok-work.ensures.frames

pub returns-clause-shown : goal.returns-clause-shown
returns-clause-shown c =
    ap (λ (d : Doing). d.shown) c.in-Ok.ensures.same ∙ c.in_ok-work.ensures.shown

-- so what a site keeps true is true
pub returns-clause-kept : goal.returns-clause-kept
returns-clause-kept c =
    same_kept c.args.table.now c.in_ok-work.work c.make_room.new.self
    c.in-Ok.ensures.same c.in-Ok.ensures.stays c.in_ok-work.ensures.kept

-- and there is room to settle what it has
pub returns-clause-places : goal.returns-clause-places
returns-clause-places c =
    made_places c.to_tell.result c.make_room.new.self.core c.make_room.new.self.told
    c.in-Ok.ensures.room c.has_few.ensures.ends c.has_few.ensures.most
