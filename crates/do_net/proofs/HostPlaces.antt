-- The sites of a network by their places.
use Rattle.std.proofs.Common.{◌≡◌, ◌==◌, ℕ, Bool, List, map, Option, Some, None, refl, ap, ◌∙◌}
use Rattle.std.proofs.Common.{Result, Ok, Err, true, false}
use Rattle.std.specs.{Prelude.{IfOk, if◌then◌else◌, position, slice_get, slice_set}, List.find}
use Rattle.do_machine.specs.Lists.{change_first}
use Rattle.do_network.specs.{Net.{Channel, change_channel}, Step.with_loss}
use Rattle.do_machine.proofs.FirstPlace.{found_at, found_map, found_none, none_map, put_first}
use Rattle.do_net.specs.{declared.lane.Kept.Kept, Hosts.{HostAdvances, HostLoses, Hosting}}
use Rattle.do_net.specs.Lanes.{ChannelsAdvance, ChannelsLose}
use Rattle.do_net.proofs.{FirstFound.change_map, HandIsStep.of_port}

module _ {X : Type 0} (g : X → Hosting) (port : ℕ) where
  -- a site of that port
  abbrev is_there : X → Bool
  is_there v = port == (g v).port

  -- the site at the first place is found
  pub place_found : (xs : List X) (i : ℕ) (x : X) → position is_there xs ≡ Some i →
      slice_get xs i ≡ Some x → find (of_port port) (map g xs) ≡ Some (g x)
  place_found xs i x e at =
      found_map is_there g (of_port port) (λ v. refl) xs x (found_at is_there xs i x e at)

  -- where there is no place none is found
  pub place_none : (xs : List X) → position is_there xs ≡ None →
      find (of_port port) (map g xs) ≡ None
  place_none xs e =
      none_map is_there g (of_port port) (λ v. refl) xs (found_none is_there xs e)

  -- another site that is set there
  pub place_set : (xs ys : List X) (i : ℕ) (x z : X) → position is_there xs ≡ Some i →
      slice_get xs i ≡ Some x → ys ≡ slice_set xs i z →
      map g ys ≡ change_first (of_port port) (λ v. g z) (map g xs)
  place_set xs ys i x z e at is_ys =
      ap (map g) (is_ys ∙ put_first is_there xs i z e)
      ∙ change_map is_there g (of_port port) (λ v. refl) (λ v. g z) z xs x
      (found_at is_there xs i x e at) refl

-- a site goes on as its channels do
pub host_advances : (x : Hosting) (cs : List Channel) (to : ℕ) (o : Option Kept) →
    ChannelsAdvance x.channels cs to o → HostAdvances x (record x { channels = cs }) to o
host_advances x cs to None a = (a.0, ap (λ ds. record x { channels = ds }) a.1)
host_advances x cs to (Some k) a = (a.0, ap (λ ds. record x { channels = ds }) a.1)

-- the site with the channels as they are once something was lost, or not
loses_as : (x : Hosting) (to after : ℕ) (cs : List Channel) (t : Bool) →
    cs ≡ (if t then change_channel to (with_loss after) x.channels else x.channels) →
    record x { channels = cs }
    ≡ (if t then record x { channels = change_channel to (with_loss after) x.channels } else x)
loses_as x to after cs true e = ap (λ ds. record x { channels = ds }) e
loses_as x to after cs false e = ap (λ ds. record x { channels = ds }) e

-- and so where memory did not run out
pub host_loses : {E : Type 0} (r : Result Bool E) (x : Hosting) (cs : List Channel)
    (to after : ℕ) → IfOk r (λ t. ChannelsLose x.channels cs to after t) →
    IfOk r (λ t. HostLoses x (record x { channels = cs }) to after t)
host_loses (Ok t) x cs to after a = (a.0, loses_as x to after cs t a.1)
host_loses (Err w) x cs to after a = tt
