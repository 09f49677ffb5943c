use Rattle.do_site.proofs.work.Work.make_room_to_close.Goals as goal
use Rattle.std.proofs.{Common.{ap, arith, length, sym, ◌∙◌}, lemmas.Bool.false≢true}
use Rattle.do_effects.specs.Doing.{Doing}
use Rattle.do_site.specs.declared.needs.Needs.{Needs}
use Rattle.do_site.proofs.{PlacesKept.{made_place, told_place}, PlansKeep.on_ok}

-- where no line waits there is room
pub returns-then-is_told-clause-room : goal.returns-then-is_told-clause-room
returns-then-is_told-clause-room c =
    let now = c.args.self.now in
    told_place now.core now.told c.requires (c.is_told.ensures.room c.if-is_told.true)

-- else it is made
pub returns-clause-room : goal.returns-clause-room
returns-clause-room c =
    let new = c.make_room.new.self in
    let asked = ap (λ (d : Doing). length d.own.node.asked) c.make_room.ensures.same in
    let needs = ap (λ (n : Needs). n.waiting) c.to_tell.ensures in
    on_ok c.make_room.result (λ place. made_place c.to_tell.result new.core new.told place
    (c.make_room.ensures.places c.requires) (omega arith)) c.make_room.ensures.room

-- and then a line waits
pub returns-clause-sure : goal.returns-clause-sure
returns-clause-sure c = λ told.
    absurd (false≢true (sym c.if-is_told.false ∙ c.is_told.ensures.value.1 told))
