-- Nodes that exchanged their bytes unchanged, in some order of what they did.
use Rattle.std.specs.Prelude.{List, Some, [], filter, if◌then◌else◌, slice_get, slice_set, suc}
use Rattle.std.specs.{Prelude.{zero, ℕ, ◌++◌, ◌==◌, ◌∷◌, ◌≡◌}, List.{AllByRecursion, flat_map}}
use Rattle.do_frames.specs.{Pieces.stream_of, declared.frame.RawFrame.RawFrame}
use Rattle.do_network.specs.declared.input.{Done.{Done, TheVariants.Skipped}, Input.Input}
use Rattle.do_network.specs.declared.input.Input.TheVariants.{Frame}
use Rattle.do_serve.specs.Rules.{Outgoing, Rules}

-- a node that does inputs one after another: its port, its state, the frames that it sent so far,
-- those that it took of each peer, and what it is to do
pub record Doing (Part : Type 0) : Type 0 where
  pub port : ℕ
  pub part : Part
  pub sent : List Outgoing
  pub taken : ℕ → List RawFrame
  pub after : List Input

-- the bytes of frames for a peer
abbrev pub bytes_for : ℕ → List Outgoing → List ℕ
bytes_for peer frames = flat_map (λ f. f.bytes) (filter (λ f. f.to == peer) frames)

-- the frame of a peer that an input took, unless it was skipped
abbrev pub frame_from : ℕ → Input → Done → List RawFrame
frame_from peer i Skipped = []
frame_from peer (Frame from frame) done = if from == peer then frame ∷ [] else []
frame_from peer i done = []

-- The bytes of the frames that a node took from a peer begin those that this gave for it. Whether
-- handing them over failed plays no part
pub record TakesGiven {Part : Type 0} (taker giver : Doing Part) : Type 0 where
  pub later : List ℕ
  pub given : stream_of (taker.taken giver.port) later ≡ bytes_for taker.port giver.sent

module _ {Part : Type 0} (rules : Rules Part) where
  -- a node that did its next input
  abbrev pub having_done : Doing Part → Input → List Input → Doing Part
  having_done d i rest =
      let m = rules.step d.part i in
      record {
        port = d.port;
        part = m.part;
        sent = d.sent ++ m.frames;
        taken = λ peer. d.taken peer ++ frame_from peer i m.done;
        after = rest;
      }

  -- Some order of all that nodes did, in so many turns: in each one node does its next input, and
  -- the bytes that it took from each then begin those that this gave for it so far
  abbrev pub HasExchange : ℕ → List (Doing Part) → Type 0
  HasExchange zero nodes = AllByRecursion (λ d. d.after ≡ []) nodes
  HasExchange (suc turns) nodes = (place : ℕ) × (d : Doing Part) × (i : Input)
      × (rest : List Input) × (slice_get nodes place ≡ Some d) × (d.after ≡ i ∷ rest)
      × AllByRecursion (TakesGiven (having_done d i rest)) nodes
      × HasExchange turns (slice_set nodes place (having_done d i rest))
