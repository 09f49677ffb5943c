-- A network by its sites, and what of it stays.
use Rattle.do_network.specs.Net as definitions
use Rattle.std.specs.Prelude.{Bool, List, None, Option, Some, [], false, length, map, ℕ, ◌==◌, ◌∷◌}
use Rattle.std.specs.{Prelude.◌≡◌, List.{list_all, AllByRecursion}}
use Rattle.do_class.specs.Class.{Class}
use Rattle.do_machine.specs.{declared.state.Seat.Seat, World.{by_port, others}, run.Run.Acting}
use Rattle.do_network.specs.declared.wire.Wire.{Wire}
use Rattle.do_net.specs.{declared.net.Net.Net, Hosts.{Hosting, Rests, hostings, net_of}}
use Rattle.do_net.specs.Seen.{Seen, at_rest}
use Rattle.do_network.specs.Net.{opening_channel, opening_part}

-- the network that these sites are
abbrev pub network : {S A : Type 0} → (S → Seen) → Net S A → definitions.Net
network seen n = net_of (hostings seen n.hosts)

-- unless memory ran out, each site has these classes and acts, and all was fetched of it
abbrev pub Stands : {S A : Type 0} → (S → Seen) → Acting → Net S A → Type 0
Stands seen act n = n.spent ≡ false → AllByRecursion (Rests n.table act) (hostings seen n.hosts)

-- all decide the acts alike
abbrev pub AreAlike : {A : Type 0} → (A → Acting) → List A → Type 0
AreAlike act [] = Unit {0}
AreAlike act (m ∷ ms) = AllByRecursion (λ o. act o ≡ act m) ms

-- the oldest of what was sent is taken out; or there is none
abbrev pub HasSent : List Wire → List Wire → Option Wire → Type 0
HasSent old new None = (old ≡ []) × (new ≡ old)
HasSent old new (Some w) = old ≡ w ∷ new

-- a site as it opens
abbrev pub opening_hosting : List Class → Acting → List ℕ → Seat → Hosting
opening_hosting table act ports s = record {
  port = s.node;
  site = at_rest table act (opening_part table ports s);
  channels = map opening_channel (others ports s.node);
}

-- the sites of a world as they open, by rising port
abbrev pub opening_hostings : List Class → Acting → List Seat → List Hosting
opening_hostings table act seats =
    let sorted : List Seat = by_port seats in
    map (opening_hosting table act (map (λ s. s.node) sorted)) sorted

-- nothing is under way in a network
abbrev pub is_quiet : definitions.Net → Bool
is_quiet N = list_all (λ x. list_all (λ c. length c.waiting == 0) x.channels) N.places
