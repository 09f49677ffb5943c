-- What a peer's stream gives next.
use Rattle.std.specs.Prelude.{◌≡◌, true, List, ◌∷◌, Option, Some, None}
use Rattle.do_network.specs.declared.input.Input.{Input}
use Rattle.do_serve.specs.declared.far.Arrival.{Arrival, TheVariants.{Frame, Faulty, Nothing}}
use Rattle.do_serve.specs.{Streams.{frame, faulty, none, next_in}, Peers.{Peer, Found, taken_by}}

-- a frame was taken, a fault was found, or neither
abbrev pub Arrives : Peer → Arrival → Peer → Type 0
Arrives p (Frame f) q =
    (next_in p.stream ≡ frame f q.stream) × (q ≡ record p { stream = q.stream; is_used = true })
Arrives p Faulty q =
    (next_in p.stream ≡ faulty q.stream) × (q ≡ record p { stream = q.stream })
Arrives p Nothing q = (next_in p.stream ≡ none) × (q ≡ p)

-- a peer gave an input, or none, where the node takes from it
abbrev pub IsArrived : Peer → Peer → Option Input → Type 0
IsArrived p q None = (next_in p.stream ≡ none) × (q ≡ p)
IsArrived p q (Some input) = (ps : List Peer) (others : Found)
    → taken_by p ps (next_in p.stream) others ≡ Some (input, q ∷ ps)
