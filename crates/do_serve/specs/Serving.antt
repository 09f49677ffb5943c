-- Serving: turns, each the first that is possible.
use Rattle.do_link.specs.declared.script.ScriptEvent.TheVariants as event
use Rattle.do_plan.specs.declared.starts.StartLine.TheVariants as line
use Rattle.std.specs.Prelude.{ℕ, zero, suc, nat_le, Bool, List, [], ◌∷◌, ◌++◌, map, Option, Some}
use Rattle.std.specs.Prelude.{None, if◌then◌else◌}
use Rattle.do_link.specs.{Told.{Told, Came, Handed}, declared.script.ScriptEvent.ScriptEvent}
use Rattle.do_plan.specs.declared.starts.StartLine.{StartLine}
use Rattle.do_network.specs.declared.input.Input.TheVariants.{Run, Start}
use Rattle.do_serve.specs.{Rules.{Rules, Outgoing}, Core.{Core, Entered, enter, leave_among}}
use Rattle.do_serve.specs.Peers.{Peer, new_peer, change_at, fed, told_ended, sent_to, Found}
use Rattle.do_serve.specs.{Peers.{take_among, end_among, closed_among}, Record.last_line}

-- a node that is served: what its inputs change, its peers, and the lines of starts that are left
pub record Server (Part : Type 0) : Type 0 where
  pub core : Core Part
  pub peers : List Peer
  pub starts : List StartLine

-- ---- a turn

-- what a turn comes to
pub data Turn (Part : Type 0) : Type 0 where
  -- it goes on with this server, and wrote these bytes
  goes : Server Part → List ℕ → Turn Part
  -- it polls the link
  polls : Turn Part
  -- serving ends
  ends : Turn Part

-- an input was done
abbrev pub goes_on : {Part : Type 0} → Server Part → Entered Part → Turn Part
goes_on s x = goes (record s { core = x.0 }) x.1

-- a line is used where its condition holds
abbrev pub used_if : {Part : Type 0} → Bool → Server Part → Turn Part
used_if holds s = if holds then goes s [] else polls

-- the next line of starts is used
abbrev pub line_turn : {Part : Type 0} → Rules Part → ℕ → List StartLine → Server Part → Turn Part
line_turn rules port [] s = ends
line_turn rules port (line.Start selector values ∷ rest) s =
    goes_on (record s { starts = rest }) (enter rules port (Start selector values) s.core)
line_turn rules port (line.Serve n ∷ rest) s =
    used_if (nat_le n s.core.taken) (record s { starts = rest })
line_turn rules port (line.Until n ∷ rest) s =
    used_if (nat_le n (closed_among rules s.core.part s.peers)) (record s { starts = rest })
line_turn rules port (line.Leave ∷ rest) s =
    goes_on (record s { starts = rest }) (leave_among rules port s.peers s.core)

-- the next line of starts is used where the node has no invocation, and else the link is polled
abbrev pub idle_turn : {Part : Type 0} → Rules Part → ℕ → Server Part → Turn Part
idle_turn rules port s =
    if rules.is_idle s.core.part then line_turn rules port s.starts s else polls

-- what was found is done, or else another turn is made
abbrev pub found_turn : {Part : Type 0} → Rules Part → ℕ → Server Part → Found → Turn Part
    → Turn Part
found_turn rules port s (Some x) other =
    goes_on (record s { peers = x.1 }) (enter rules port x.0 s.core)
found_turn rules port s None other = other

-- the first turn that is possible: an act; a frame, or a fault in its place; an end; a line of
-- starts; a poll
abbrev pub turn : {Part : Type 0} → Rules Part → ℕ → Server Part → Turn Part
turn rules port s =
    if rules.can_act s.core.part then goes_on s (enter rules port Run s.core)
    else found_turn rules port s (take_among rules s.core.part s.peers)
    (found_turn rules port s (end_among rules s.core.part s.peers) (idle_turn rules port s))

-- ---- the link

-- what came over the link: bytes and ends of a closed end are dropped
abbrev pub hears : {Part : Type 0} → Rules Part → Part → ScriptEvent → List Peer → List Peer
hears rules part (event.Bytes peer bytes) peers =
    if rules.is_open part peer then change_at peer (fed bytes) peers else peers
hears rules part (event.Ended peer) peers =
    if rules.is_open part peer then change_at peer told_ended peers else peers
hears rules part event.Quiet peers = peers

-- the peers after these frames were handed to the link, and what the link told behind that; none
-- where it told too little
abbrev pub hand : List Outgoing → List Peer → List Told → Option (List Peer × List Told)
hand [] peers told = Some (peers, told)
hand (frame ∷ frames) peers (Handed sent ∷ told) =
    hand frames (change_at frame.to (sent_to sent.failed) peers) told
hand (frame ∷ frames) peers told = None

-- ---- all turns

-- how serving stopped
pub data How : Type 0 where
  -- by the line `end`
  ended : How
  -- all turns were taken
  spent : How
  -- the link told no more
  unfinished : How

-- what serving came to: what it wrote behind the first line, the frames that were to be handed to
-- the link, and how it stopped
pub record Report : Type 0 where
  pub text : List ℕ
  pub frames : List Outgoing
  pub how : How

-- the same behind a text and frames
abbrev pub in_front : List ℕ → List Outgoing → Report → Report
in_front text frames r = record {
  text = text ++ r.text;
  frames = frames ++ r.frames;
  how = r.how;
}

-- serving stopped, with these frames to be handed over and this written
abbrev pub stopped : List ℕ → List Outgoing → How → Report
stopped text frames how = record { text = text; frames = frames; how = how }

-- how serving goes on from a server, over what the link tells
abbrev pub Goes : Type 0 → Type 0
Goes Part = Server Part → List Told → Report

-- a poll uses the next event that the link told
abbrev pub after_poll : {Part : Type 0} → Rules Part → Goes Part → List Outgoing → Goes Part
after_poll rules next frames s (Came event ∷ told) =
    in_front [] frames
    (next (record s { peers = hears rules s.core.part event s.peers }) told)
after_poll rules next frames s told = stopped [] frames unfinished

-- what a turn comes to is followed by the others
abbrev pub after_turn : {Part : Type 0} → Rules Part → Goes Part → List Outgoing → Turn Part
    → Goes Part
after_turn rules next frames (goes t text) s told = in_front text frames (next t told)
after_turn rules next frames polls s told = after_poll rules next frames s told
after_turn rules next frames ends s told = stopped last_line frames ended

-- no frame waits
abbrev pub sent_all : {Part : Type 0} → Server Part → List Peer → Server Part
sent_all s peers = record s { core = record s.core { waiting = [] }; peers = peers }

-- a turn is made where all frames were handed over
abbrev pub after_hand : {Part : Type 0} → Rules Part → ℕ → Goes Part → Server Part
    → Option (List Peer × List Told) → Report
after_hand rules port next s None = stopped [] s.core.waiting unfinished
after_hand rules port next s (Some x) =
    after_turn rules next s.core.waiting (turn rules port (sent_all s x.0)) (sent_all s x.0) x.1

-- Serving for at most so many turns over what the link tells. Before each turn every frame that
-- waits is handed to the link, once and the oldest first.
abbrev pub serve_from : {Part : Type 0} → Rules Part → ℕ → ℕ → Goes Part
serve_from rules port zero s told = stopped [] [] spent
serve_from rules port (suc turns) s told =
    after_hand rules port (serve_from rules port turns) s (hand s.core.waiting s.peers told)

-- a node before its first turn
abbrev pub opening : {Part : Type 0} → Part → List Outgoing → List ℕ → List StartLine → Server Part
opening part waiting peers starts = record {
  core = record { part = part; waiting = waiting; taken = 0 };
  peers = map new_peer peers;
  starts = starts;
}
