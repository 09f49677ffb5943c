-- The channels of a site by their places.
use Rattle.std.proofs.Common.{◌≡◌, ◌==◌, ℕ, Bool, List, Option, Some, None, ap, sym, ◌∙◌, Result}
use Rattle.std.proofs.Common.{Ok, Err, true, false, refl}
use Rattle.std.specs.Prelude.{IfOk, if◌then◌else◌, length, nat_lt, not, option_and_then, position}
use Rattle.std.specs.{Prelude.{slice_get, slice_set}, List.find}
use Rattle.do_network.specs.{Net.{Channel, change_channel}, Step.{advanced, with_loss}}
use Rattle.do_machine.proofs.FirstPlace.{first_set, found_at, found_none}
use Rattle.do_net.specs.{declared.lane.Kept.Kept, Lanes.{Advances, ChannelsAdvance, ChannelsLose}}
use Rattle.do_net.{specs.Lanes.{carried_of, has_behind}, proofs.FirstFound.set_same}

-- a channel to a peer
abbrev is_to : ℕ → Channel → Bool
is_to to c = to == c.to

-- the oldest that is taken out of a lane is that of its channel
lane_oldest : (to : ℕ) (cs : List Channel) (i : ℕ) (c d : Channel) (k : Kept) →
    position (is_to to) cs ≡ Some i → slice_get cs i ≡ Some c → Advances c d (Some k) →
    option_and_then (λ x. slice_get x.waiting 0) (find (is_to to) cs) ≡ Some (carried_of k)
lane_oldest to cs i c d k e at a =
    ap (option_and_then (λ x. slice_get x.waiting 0)) (found_at (is_to to) cs i c e at) ∙ a.0

-- and the channel goes on
lane_advanced : (to : ℕ) (cs ds : List Channel) (i : ℕ) (c d : Channel) (k : Kept) →
    position (is_to to) cs ≡ Some i → slice_get cs i ≡ Some c → Advances c d (Some k) →
    ds ≡ slice_set cs i d → ds ≡ change_channel to (advanced (carried_of k)) cs
lane_advanced to cs ds i c d k e at a is_ds =
    is_ds ∙ first_set (is_to to) (advanced (carried_of k)) cs i c d e at a.1

-- of a lane with nothing in it there is no oldest
lane_empty : (to : ℕ) (cs : List Channel) (i : ℕ) (c d : Channel) →
    position (is_to to) cs ≡ Some i → slice_get cs i ≡ Some c → Advances c d None →
    option_and_then (λ x. slice_get x.waiting 0) (find (is_to to) cs) ≡ None
lane_empty to cs i c d e at a =
    ap (option_and_then (λ x. slice_get x.waiting 0)) (found_at (is_to to) cs i c e at)
    ∙ ap (λ ws. slice_get ws 0) a.0

-- and it stays
lane_stays : (to : ℕ) (cs ds : List Channel) (i : ℕ) (c d : Channel) →
    slice_get cs i ≡ Some c → Advances c d None → ds ≡ slice_set cs i d → ds ≡ cs
lane_stays to cs ds i c d at a is_ds =
    is_ds ∙ ap (λ v. slice_set cs i v) a.1 ∙ set_same cs i c at

-- of no lane there is none
lane_missing : (to : ℕ) (cs : List Channel) → position (is_to to) cs ≡ None →
    option_and_then (λ x. slice_get x.waiting 0) (find (is_to to) cs) ≡ None
lane_missing to cs e =
    ap (option_and_then (λ x. slice_get x.waiting 0)) (found_none (is_to to) cs e)

-- channels go on as one of them does
pub channels_advance : (to : ℕ) (cs : List Channel) (i : ℕ) (c d : Channel) (o : Option Kept) →
    position (is_to to) cs ≡ Some i → slice_get cs i ≡ Some c → Advances c d o →
    ChannelsAdvance cs (slice_set cs i d) to o
channels_advance to cs i c d None e at a =
    (lane_empty to cs i c d e at a, lane_stays to cs (slice_set cs i d) i c d at a refl)
channels_advance to cs i c d (Some k) e at a =
    (lane_oldest to cs i c d k e at a, lane_advanced to cs (slice_set cs i d) i c d k e at a refl)

-- and stay where there is no such
pub channels_missing : (to : ℕ) (cs : List Channel) → position (is_to to) cs ≡ None →
    ChannelsAdvance cs cs to None
channels_missing to cs e = (lane_missing to cs e, refl)

-- a lane in which something is lost
loses_in : (cs : List Channel) (to after i : ℕ) (c d : Channel) (t : Bool) →
    position (is_to to) cs ≡ Some i → slice_get cs i ≡ Some c →
    d ≡ (if t then with_loss after c else c) →
    slice_set cs i d ≡ (if t then change_channel to (with_loss after) cs else cs)
loses_in cs to after i c d true e at is_d =
    first_set (is_to to) (with_loss after) cs i c d e at is_d
loses_in cs to after i c d false e at is_d =
    ap (λ v. slice_set cs i v) is_d ∙ set_same cs i c at

-- and the channels as they then are
pub channels_lose : {E : Type 0} (r : Result Bool E) (cs : List Channel) (to after i : ℕ)
    (c d : Channel) → position (is_to to) cs ≡ Some i → slice_get cs i ≡ Some c →
    IfOk r (λ t. t ≡ not (nat_lt (length c.waiting) after)) →
    IfOk r (λ t. d ≡ (if t then with_loss after c else c)) →
    IfOk r (λ t. ChannelsLose cs (slice_set cs i d) to after t)
channels_lose (Ok t) cs to after i c d e at told is_d = (
  told ∙ sym (ap (has_behind after) (found_at (is_to to) cs i c e at)),
  loses_in cs to after i c d t e at is_d,
)
channels_lose (Err w) cs to after i c d e at told is_d = tt

-- in no lane anything is lost
pub none_loses : (cs : List Channel) (to after : ℕ) → position (is_to to) cs ≡ None →
    ChannelsLose cs cs to after false
none_loses cs to after e = (sym (ap (has_behind after) (found_none (is_to to) cs e)), refl)
