-- The sites of a network with what is under way from each, and what a network is by them.
use Rattle.do_network.specs.declared.input.Done.TheVariants as dones
use Rattle.std.specs.Prelude.{Bool, List, None, Option, Some, [], fold, false, map, true, ℕ, ◌≡◌}
use Rattle.std.specs.Prelude.{if◌then◌else◌, option_and_then, slice_get, unwrap_or, ◌++◌, ◌∷◌}
use Rattle.do_class.specs.Class.{Class}
use Rattle.do_machine.specs.{State.is_open, run.Run.Acting, take.Take.can_take}
use Rattle.do_trace.specs.declared.outcome.Outcome.{Outcome}
use Rattle.do_network.specs.declared.{input.{Done.Done, Input.Input}, wire.Wire.Wire}
use Rattle.do_network.specs.{Links.Sending, Net.{Carried, Channel, Net, Place, change_channel}}
use Rattle.do_network.specs.Net.{change_place, channel_to, part_at, place_at, with_channel}
use Rattle.do_network.specs.{Site.Handled, Step.{NetStepped, advanced, hands, net_skipped, wire_of}}
use Rattle.do_network.specs.Step.{with_loss, with_sending}
use Rattle.do_net.specs.declared.{by_port.Hosts.Hosts, host.Host.Host, lane.Kept.Kept}
use Rattle.std.specs.List.{AllByRecursion}
use Rattle.do_net.specs.{Lanes.{carried_of, has_behind}, Seen.{Seen, at_rest}}

-- a site of a port, with its channels by rising peer
pub record Hosting : Type 0 where
  pub port : ℕ
  pub site : Seen
  pub channels : List Channel

-- a site with its lanes, by what is seen of sites
abbrev pub hosting : {S : Type 0} → (S → Seen) → Host S → Hosting
hosting seen h = record { port = h.port; site = seen h.site; channels = h.lanes }

-- sites with their lanes
abbrev pub hostings : {S : Type 0} → (S → Seen) → Hosts S → List Hosting
hostings seen hosts = map (hosting seen) hosts.items

-- the place of a network at which a site stands
abbrev pub place_of : Hosting → Place
place_of x = record { port = x.port; part = x.site.part; channels = x.channels }

-- the network of these sites
abbrev pub net_of : List Hosting → Net
net_of xs = record { places = map place_of xs }

-- a site of these classes and acts of which all was fetched
abbrev pub Rests : List Class → Acting → Hosting → Type 0
Rests table act x = x.site ≡ at_rest table act x.site.part

-- the oldest frame of a site is fetched as what was sent; or there is none
abbrev pub FetchesWire : Hosting → Hosting → Option Wire → Type 0
FetchesWire old new None = (old.site.frames ≡ []) × (new ≡ old)
FetchesWire old new (Some w) =
    (s : Sending) × ((old.site.frames ≡ s ∷ new.site.frames) × ((w ≡ wire_of old.port s)
    × (new ≡ record old { site = record old.site { frames = new.site.frames } })))

-- an input was enabled
abbrev pub was_enabled : Done → Bool
was_enabled dones.Skipped = false
was_enabled _ = true

-- what an input came to at a site, as the outcome of an event
abbrev pub outcome_of : Handled → Outcome
outcome_of h = record { enabled = was_enabled h.done; shown = h.shown }

-- a site after an input, of which all was fetched
abbrev pub hosting_after : Hosting → Handled → Hosting
hosting_after x h = record x {
  site = at_rest x.site.table x.site.act h.part;
  channels = fold with_sending x.channels h.sent;
}

-- nothing of a site is left to be fetched
abbrev pub HasFetched : Hosting → Type 0
HasFetched x = (x.site.frames ≡ []) × (x.site.shown ≡ [])

-- a site whose frames were fetched and went into its channels
abbrev pub forwarded : Hosting → Hosting
forwarded x = record x {
  site = record x.site { frames = [] };
  channels = fold with_sending x.channels x.site.frames;
}

-- what an input does to a network that hands it to the site of a port
abbrev pub net_handed : List Class → Acting → Net → ℕ → Input → NetStepped
net_handed table act N port input = unwrap_or (hands table act N port input) (net_skipped N)

-- Sites of these classes and acts go on to others, of which all was fetched too, as a step of their
-- network says, with what was sent before and then, and the outcome. What is sent in it has a
-- spelling.
pub record Goes (table : List Class) (act : Acting) (after : List Hosting)
    (before now : List Wire) (told : Outcome) (s : NetStepped) (Spelled : Type 0) : Type 0 where
  pub rest : AllByRecursion (Rests table act) after
  pub net : net_of after ≡ s.net
  pub wires : now ≡ before ++ s.wires
  pub outcome : told ≡ s.outcome
  pub spelled : Spelled

-- a node can take what another sends it
abbrev pub net_can_take : Net → ℕ → ℕ → Bool
net_can_take N port from = elim (part_at N port) [
  | None ↦ false
  | Some p ↦ can_take from p.own.node
]

-- the end of a node towards another is open
abbrev pub net_is_open : Net → ℕ → ℕ → Bool
net_is_open N port peer = elim (part_at N port) [
  | None ↦ false
  | Some p ↦ is_open p.own.node peer
]

-- the oldest of what stands in a channel of a place
abbrev pub oldest_to : ℕ → Place → Option Carried
oldest_to to x = option_and_then (λ c. slice_get c.waiting 0) (channel_to to x)

-- the oldest of what stands in the channel from one node to another
abbrev pub oldest : Net → ℕ → ℕ → Option Carried
oldest N from to = option_and_then (oldest_to to) (place_at N from)

-- the oldest is taken out of a channel of a site; or there is none
abbrev pub HostAdvances : Hosting → Hosting → ℕ → Option Kept → Type 0
HostAdvances old new to None = (oldest_to to (place_of old) ≡ None) × (new ≡ old)
HostAdvances old new to (Some x) =
    (oldest_to to (place_of old) ≡ Some (carried_of x))
    × (new ≡ record old {
      channels = change_channel to (advanced (carried_of x)) old.channels;
    })

-- the oldest is taken out of the channel from one node to another; or there is none
abbrev pub NetAdvances : List Class → Acting → List Hosting → List Hosting → ℕ → ℕ
    → Option Kept → Type 0
NetAdvances table act old new from to None =
    (oldest (net_of old) from to ≡ None) × (new ≡ old)
NetAdvances table act old new from to (Some x) =
    (oldest (net_of old) from to ≡ Some (carried_of x)) × (AllByRecursion (Rests table act) new
    × (net_of new ≡ change_place from (with_channel to (advanced (carried_of x))) (net_of old)))

-- the mark of a loss is put into a channel of a site, where so many stand in it
abbrev pub HostLoses : Hosting → Hosting → ℕ → ℕ → Bool → Type 0
HostLoses old new to after told =
    (told ≡ has_behind after (channel_to to (place_of old)))
    × (new ≡ (if told then record old {
      channels = change_channel to (with_loss after) old.channels;
    } else old))
