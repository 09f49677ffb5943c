-- What a caller looks up in a network is what stands there by its places.
use Rattle.std.proofs.Common.{◌≡◌, ◌==◌, ℕ, List, [], ◌∷◌, map, Option, Some, None, refl, ap}
use Rattle.std.specs.{Prelude.{option_and_then, position, slice_get}, List.{find, AllByRecursion}}
use Rattle.do_class.specs.Class.{Class}
use Rattle.do_machine.specs.run.Run.{Acting}
use Rattle.do_network.specs.Net.{Channel, Place, channel, channel_to, part_at}
use Rattle.do_machine.proofs.FirstPlace.{found_map, none_map}
use Rattle.do_net.specs.{Hosts.{Hosting, Rests, net_of, place_of}, Seen.Seen}
use Rattle.do_net.proofs.{FirstFound.each_found, HandIsStep.{of_port, part_found, part_missing}}
use Rattle.do_net.proofs.HostPlaces.{place_found, place_none}

-- the ports of sites are those of their places
pub ports_listed : {X : Type 0} (g : X → Hosting) (xs : List X) →
    map (λ h. (g h).port) xs ≡ map (λ (x : Place). x.port) (map place_of (map g xs))
ports_listed g [] = refl
ports_listed g (x ∷ xs) = ap (λ ps. (g x).port ∷ ps) (ports_listed g xs)

module _ {X : Type 0} (g : X → Hosting) (port : ℕ) (xs : List X) where
  -- the first site of a port
  abbrev first : Option ℕ
  first = position (λ v. port == (g v).port) xs

  -- where there is none, there is no part and no channel
  pub site_none : first ≡ None → part_at (net_of (map g xs)) port ≡ None
  site_none e = part_missing port (map g xs) (place_none g port xs e)

  pub lane_none : (to : ℕ) → first ≡ None → channel (net_of (map g xs)) port to ≡ None
  lane_none to e =
      ap (option_and_then (channel_to to))
      (none_map (of_port port) place_of (λ v. port == v.port) (λ v. refl) (map g xs)
      (place_none g port xs e))

  module _ (i : ℕ) (x : X) (e : first ≡ Some i) (at : slice_get xs i ≡ Some x) where
    -- its part is that of the port
    pub site_found : part_at (net_of (map g xs)) port ≡ Some (g x).site.part
    site_found = part_found port (map g xs) (g x) (place_found g port xs i x e at)

    -- it has the classes that all have
    pub site_rests : (table : List Class) (act : Acting) →
        AllByRecursion (Rests table act) (map g xs) → (g x).site.table ≡ table
    site_rests table act all =
        ap (λ (s : Seen). s.table) (each_found (Rests table act) (of_port port) (map g xs) (g x) all
        (place_found g port xs i x e at))

    -- its channels are those of the port
    pub lane_found : (to : ℕ) → channel (net_of (map g xs)) port to
        ≡ find (λ (c : Channel). to == c.to) (g x).channels
    lane_found to =
        ap (option_and_then (channel_to to))
        (found_map (of_port port) place_of (λ v. port == v.port) (λ v. refl) (map g xs) (g x)
        (place_found g port xs i x e at))
