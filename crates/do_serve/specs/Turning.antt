-- A server as its state, its peers and its starts stand, before and after a turn.
use Rattle.std.specs.Prelude.{◌≡◌, ℕ, Bool, true, false, List, [], ◌++◌, drop}
use Rattle.do_base.specs.declared.events.shown.Shown.{Shown}
use Rattle.do_plan.specs.declared.starts.StartLine.{StartLine}
use Rattle.do_serve.specs.declared.{log.Log.Log, turning.Turned.Turned}
use Rattle.do_serve.specs.{declared.turning.Turned.TheVariants.{Went, Polls, Ends}, Rules.Outgoing}
use Rattle.do_serve.specs.{Peers.Peer, Entering.core_of, Serving.{Server, Turn, goes, polls, ends}}

-- a server as it stands, with these lines of starts
abbrev pub server_with : {Part : Type 0} → Part → List Outgoing → Log → List Peer
    → List StartLine → Server Part
server_with part waiting log peers starts =
    record { core = core_of part waiting log; peers = peers; starts = starts }

-- the same with the lines of starts from a place on
abbrev pub server_of : {Part : Type 0} → Part → List Outgoing → Log → List Peer → List StartLine
    → ℕ → Server Part
server_of part waiting log peers starts at = server_with part waiting log peers (drop at starts)

-- a turn came to this server, and this was written
abbrev pub TurnsTo : {Part : Type 0} → Turn Part → Server Part → Server Part → List ℕ → List ℕ
    → Turned → Type 0
TurnsTo (goes t text) s s' before after Went = (s' ≡ t) × (after ≡ before ++ text)
TurnsTo polls s s' before after Polls = (s' ≡ s) × (after ≡ before)
TurnsTo ends s s' before after Ends = (s' ≡ s) × (after ≡ before)
TurnsTo turn s s' before after turned = ⊥

-- a line of starts was used, with these left behind it, or a poll is to be made
abbrev pub UsesLine : {Part : Type 0} → Turn Part → Part → List Outgoing → Part → List Outgoing
    → Log → Log → List Peer → List StartLine → Bool → Type 0
UsesLine turn part waiting part' waiting' before after peers rest true =
    (text : List ℕ) × (turn ≡ goes (server_with part' waiting' after peers rest) text)
    × (after.text ≡ before.text ++ text)
UsesLine turn part waiting part' waiting' before after peers rest false =
    (turn ≡ polls) × (part' ≡ part) × (waiting' ≡ waiting) × (after ≡ before)

-- the port stays, and all that was shown was written
pub record IsKept (shown : List Shown) (before after : Log) : Type 0 where
  pub node : after.node ≡ before.node
  pub drained : shown ≡ []
