-- Rulings that are followed in the room that is there.
use Rattle.std.{proofs.Common.{◌≡◌, ◌≤◌, ◌+◌, arith, inl, inr, length}, specs.Prelude.vec_capacity}
use Rattle.do_machine.specs.declared.item.Item.{Item}
use Rattle.do_rules.specs.declared.take.ruling.Ruling.{Ruling}
use Rattle.do_effects.specs.{Bounded.IsBounded, Paying.{IsEnding, Pays}, Room.Needs as Wants}
use Rattle.do_effects.specs.{Taking.taking_needs, declared.changing.Core.Core}
use Rattle.do_site.specs.{Room.{HasPlaceToFollow, HasPlaceToLeave}, declared.told.Told.Told}
use Rattle.do_site.proofs.{EndingRulings.ending_left, PlansKeep.place_left}

-- there is room to tell of all that is settled
pub settled_by : (n : Wants) (r : Ruling) (c : Core) (t : Told) → HasPlaceToFollow r n c t →
    length c.part.own.node.asked ≤ vec_capacity t.settled
settled_by n r c t (inl place) = let ps = place.settled in omega (arith, ps)
settled_by n r c t (inr ending) = ending.1.places.settled

-- and behind what the ruling does there is a place to leave what nothing holds
pub left_by : (item : Item) (r : Ruling) (c d : Core) (t u : Told) →
    HasPlaceToFollow r (taking_needs c.part.own.node item r) c t →
    IsBounded (taking_needs c.part.own.node item r) c d → (IsEnding r → Pays c d) →
    vec_capacity u.freed ≡ vec_capacity t.freed → vec_capacity u.left ≡ vec_capacity t.left →
    vec_capacity u.settled ≡ vec_capacity t.settled → length d.part.own.node.open_to ≤ 64 →
    d.streams.room ≤ d.streams.bare → HasPlaceToLeave d u
left_by item r c d t u (inl place) b pays freed left settled few most =
    place_left (taking_needs c.part.own.node item r) c d t u place b freed left settled few most
left_by item r c d t u (inr ending) b pays freed left settled few most =
    ending_left item r ending.0 c d t u ending.1 b (pays ending.0) freed left settled
