-- Nothing was received as a network opens.
use Rattle.std.proofs.Common.{◌≡◌, ◌==◌, ℕ, Bool, true, false, cond, List, [], ◌∷◌, map, ap, arith}
use Rattle.std.proofs.Common.{subst}
use Rattle.std.specs.{Prelude.{Some, find, option_map, unwrap_or}, FinMap.get-empty}
use Rattle.do_class.specs.Class.{Class}
use Rattle.do_export.specs.Counts.{count_of, entry_cmp}
use Rattle.do_machine.specs.{declared.state.Seat.Seat, World.by_port}
use Rattle.do_network.specs.{Links.Part, Net.{Place, net_opening, opening_part, opening_place}}
use Rattle.do_agreement.proofs.places.PlacesChanged.{some_is}
use Rattle.do_within.specs.Received.{CountsWithin, ReceivedWithin}

module _ (table : List Class) (ports : List ℕ) where
  -- a site as it opens
  site_within : (s : Seat) → CountsWithin 0 (opening_part table ports s).own.received
  site_within s home serial =
      let none : count_of (opening_part table ports s).own.received home serial ≡ 0 =
      ap (λ o. unwrap_or o 0) (get-empty entry_cmp (home, serial)) in
      omega (arith, none)

  -- the site of a port
  found_within : (seats : List Seat) (port : ℕ) (p : Part) →
      option_map (λ (x : Place). x.part)
      (find (λ (x : Place). port == x.port) (map (opening_place table ports) seats)) ≡ Some p →
      CountsWithin 0 p.own.received
  found_within [] port p e = absurd (cc)
  found_within (s ∷ seats) port p e = go (port == s.node) e (found_within seats port p)
    where
      go : (b : Bool) → option_map (λ (x : Place). x.part)
          (cond b (Some (opening_place table ports s))
          (find (λ (x : Place). port == x.port) (map (opening_place table ports) seats))) ≡ Some p →
          (option_map (λ (x : Place). x.part)
          (find (λ (x : Place). port == x.port) (map (opening_place table ports) seats)) ≡ Some p →
          CountsWithin 0 p.own.received) → CountsWithin 0 p.own.received
      go true k behind =
          subst (λ (q : Part). CountsWithin 0 q.own.received)
          (some_is (opening_part table ports s) p k) (site_within s)
      go false k behind = behind k

-- each site
pub opening_within : (table : List Class) (seats : List Seat) →
    ReceivedWithin 0 (net_opening table seats)
opening_within table seats port p e =
    found_within table (map (λ s. s.node) (by_port seats)) (by_port seats) port p e
