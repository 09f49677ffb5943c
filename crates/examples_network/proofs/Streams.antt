-- What stands in the streams between sites, as bytes.
use Rattle.std.{proofs.Common.{◌≡◌, ℕ, List, [], ◌∷◌, map, refl}, specs.Prelude.true}
use Rattle.do_class.specs.declared.packet.{Name.TheVariants.{Lent, Mine, Yours}, Packet.Packet}
use Rattle.do_coder.specs.Recent.{pair}
use Rattle.do_frames.specs.declared.frame.Frame.{Frame}
use Rattle.do_frames.specs.declared.frame.Frame.TheVariants.{Release, Reply, RootAsk, Shutdown}
use Rattle.do_grammar.specs.Num.{num, size}
use Rattle.do_network.specs.{declared.wire.Wire.Wire, Links.{Link, all_sent}, Frames.Posted}
use Rattle.do_network.specs.{Net.opening_link, Step.wire_of}
use Rattle.examples_network.proofs.Samples.{nothing, object}

-- a frame to a peer
abbrev to : ℕ → Frame → Posted
to peer f = record { to = peer; frame = f }

-- what 7001 sends over these links
abbrev wires : List Link → List Posted → List Wire
wires links xs = map (wire_of 7001) (all_sent links xs).sent

-- what 7001 sent to a peer at once
abbrev wire : ℕ → List ℕ → Wire
wire peer bytes = record { from = 7001; to = peer; bytes = bytes }

-- the six bytes that a stream begins with
abbrev greeting : List ℕ
greeting = 13 ∷ 0 ∷ 0 ∷ 0 ∷ 1 ∷ 2 ∷ []

-- the first frame to a peer goes behind the greeting
first_ask : wires (opening_link 7002 ∷ []) (to 7002 (RootAsk 1) ∷ [])
    ≡ wire 7002 greeting ∷ wire 7002 (5 ∷ 0 ∷ 0 ∷ 0 ∷ 2 ∷ 1 ∷ 1 ∷ []) ∷ []
unfolding num size
first_ask = refl

-- the second has none, and one to another peer has its own
two_peers : wires (opening_link 7002 ∷ opening_link 7003 ∷ [])
    (to 7002 Shutdown ∷ to 7003 Shutdown ∷ to 7002 Shutdown ∷ [])
    ≡ wire 7002 greeting ∷ wire 7002 (12 ∷ 0 ∷ 0 ∷ 0 ∷ 0 ∷ [])
    ∷ wire 7003 greeting ∷ wire 7003 (12 ∷ 0 ∷ 0 ∷ 0 ∷ 0 ∷ [])
    ∷ wire 7002 (12 ∷ 0 ∷ 0 ∷ 0 ∷ 0 ∷ []) ∷ []
two_peers = refl

-- where there is no link nothing is sent
no_link : wires (opening_link 7002 ∷ []) (to 7004 Shutdown ∷ []) ≡ []
no_link = refl

-- a release with its amount
release_of_two : wires (record (opening_link 7002) { greeted = true } ∷ [])
    (to 7002 (Release 2 2) ∷ [])
    ≡ wire 7002 (10 ∷ 0 ∷ 0 ∷ 0 ∷ 4 ∷ 1 ∷ 2 ∷ 1 ∷ 2 ∷ []) ∷ []
unfolding num size
release_of_two = refl

-- a reply that names an own object of the class at place 0
abbrev naming : Packet
naming = record nothing { names = Mine 2 (record { 0 = 0 }) ∷ [] }

-- an own object is named in full once, and by its place in the table of recent names from then on
named_again : wires (record (opening_link 7002) { greeted = true } ∷ [])
    (to 7002 (Reply 1 naming) ∷ to 7002 (Reply 2 naming) ∷ [])
    ≡ wire 7002 (3 ∷ 0 ∷ 0 ∷ 0 ∷ 10 ∷ 1 ∷ 1 ∷ 1 ∷ 1 ∷ 1 ∷ 1 ∷ 2 ∷ 0 ∷ 0 ∷ 0 ∷ [])
    ∷ wire 7002 (3 ∷ 0 ∷ 0 ∷ 0 ∷ 8 ∷ 1 ∷ 2 ∷ 1 ∷ 1 ∷ 4 ∷ 0 ∷ 0 ∷ 0 ∷ []) ∷ []
unfolding num size
named_again = refl

-- over another link it is named in full again
named_to_another : wires (record (opening_link 7002) {
  greeted = true;
  sent = pair 2 0 ∷ [];
} ∷ record (opening_link 7003) { greeted = true } ∷ [])
    (to 7003 (Reply 1 naming) ∷ to 7002 (Reply 1 naming) ∷ [])
    ≡ wire 7003 (3 ∷ 0 ∷ 0 ∷ 0 ∷ 10 ∷ 1 ∷ 1 ∷ 1 ∷ 1 ∷ 1 ∷ 1 ∷ 2 ∷ 0 ∷ 0 ∷ 0 ∷ [])
    ∷ wire 7002 (3 ∷ 0 ∷ 0 ∷ 0 ∷ 8 ∷ 1 ∷ 1 ∷ 1 ∷ 1 ∷ 4 ∷ 0 ∷ 0 ∷ 0 ∷ []) ∷ []
unfolding num size
named_to_another = refl

-- the receiver's object is named by its serial, and a third node's with its class and the token
named_otherwise : wires (record (opening_link 7002) { greeted = true } ∷ [])
    (to 7002 (Reply 1 (record nothing {
      names = Yours 1 ∷ Lent (object 7003 1) (record { 0 = 2 }) 1 ∷ [];
    })) ∷ [])
    ≡ wire 7002 (3 ∷ 0 ∷ 0 ∷ 0 ∷ 19 ∷ 1 ∷ 1 ∷ 1 ∷ 2 ∷ 2 ∷ 1 ∷ 1
    ∷ 3 ∷ 2 ∷ 27 ∷ 91 ∷ 1 ∷ 1 ∷ 1 ∷ 2 ∷ 1 ∷ 1 ∷ 0 ∷ 0 ∷ []) ∷ []
unfolding num size
named_otherwise = refl
