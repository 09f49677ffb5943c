-- The peers of a node that is served.
use Rattle.std.specs.Prelude.{◌≡◌, ℕ, ◌+◌, ◌==◌, ◌&&◌, ◌++◌, Bool, true, false, List, [], ◌∷◌}
use Rattle.std.specs.{Prelude.{Option, Some, None, if◌then◌else◌}, Option.option_map}
use Rattle.do_frames.specs.Streams.{Stream}
use Rattle.do_network.specs.declared.input.Input.{Input, TheVariants.{Frame, Close, Ended}}
use Rattle.do_serve.specs.{Rules.Rules, Streams.{Next, frame, faulty, none, next_in}}

-- a peer: its port, the stream that comes from it, whether its end was told, and whether a frame
-- was sent to it or taken from it
pub record Peer : Type 0 where
  pub port : ℕ
  pub stream : Stream
  pub is_ended : Bool
  pub is_used : Bool

-- a peer of which nothing came
abbrev pub new_peer : ℕ → Peer
new_peer port = record {
  port = port;
  stream = record { greeted = false; place = 0; rest = []; fault = None };
  is_ended = false;
  is_used = false;
}

-- the peer of a port is changed
abbrev pub change_at : ℕ → (Peer → Peer) → List Peer → List Peer
change_at port change [] = []
change_at port change (p ∷ ps) =
    if p.port == port then change p ∷ ps else p ∷ change_at port change ps

-- bytes more came from a peer
abbrev pub fed : List ℕ → Peer → Peer
fed bytes p = record p { stream = record p.stream { rest = p.stream.rest ++ bytes } }

-- a peer's end was told
abbrev pub told_ended : Peer → Peer
told_ended p = record p { is_ended = true }

-- a frame was sent to a peer; where that failed its end counts as told
abbrev pub sent_to : Bool → Peer → Peer
sent_to failed p = record p { is_ended = if failed then true else p.is_ended; is_used = true }

-- an input that was found, and the peers afterwards
abbrev pub Found : Type 0
Found = Option (Input × List Peer)

-- the same behind one peer more
abbrev pub behind : Peer → Found → Found
behind p found = option_map (λ x. (x.0, p ∷ x.1)) found

-- what the next of a peer's stream comes to, or else what is found among the others
abbrev pub taken_by : Peer → List Peer → Next → Found → Found
taken_by p ps (frame f s) others =
    Some (Frame p.port f, record p { stream = s; is_used = true } ∷ ps)
taken_by p ps (faulty s) others = Some (Close p.port, record p { stream = s } ∷ ps)
taken_by p ps none others = behind p others

-- what a peer gives where the node takes from it, or else what is found among the others
abbrev pub take_step : {Part : Type 0} → Rules Part → Part → Peer → List Peer → Found → Found
take_step rules part p ps others =
    if rules.can_take part p.port then taken_by p ps (next_in p.stream) others else behind p others

-- the first whole frame of the first peer from which the node takes, or a close where a fault
-- stands in its place
abbrev pub take_among : {Part : Type 0} → Rules Part → Part → List Peer → Found
take_among rules part [] = None
take_among rules part (p ∷ ps) = take_step rules part p ps (take_among rules part ps)

-- the end of the first peer whose end was told and from which the node takes
abbrev pub end_among : {Part : Type 0} → Rules Part → Part → List Peer → Found
end_among rules part [] = None
end_among rules part (p ∷ ps) =
    if p.is_ended && rules.can_take part p.port
    then Some (Ended p.port, record p { is_ended = false } ∷ ps)
    else behind p (end_among rules part ps)

-- how many ends are closed
abbrev pub closed_among : {Part : Type 0} → Rules Part → Part → List Peer → ℕ
closed_among rules part [] = 0
closed_among rules part (p ∷ ps) =
    (if rules.is_open part p.port then 0 else 1) + closed_among rules part ps

-- an input was found and the peers are those afterwards, or none was and they stay
abbrev pub Finds : Found → List Peer → List Peer → Option Input → Type 0
Finds found peers peers' None = (found ≡ None) × (peers' ≡ peers)
Finds found peers peers' (Some input) = found ≡ Some (input, peers')

-- a peer gave an input, or none, whatever the others give
abbrev pub Takes : {Part : Type 0} → Rules Part → Part → Peer → Peer → Option Input → Type 0
Takes rules part p q None = ((ps : List Peer) (others : Found)
    → take_step rules part p ps others ≡ behind p others) × (q ≡ p)
Takes rules part p q (Some input) = (ps : List Peer) (others : Found)
    → take_step rules part p ps others ≡ Some (input, q ∷ ps)
