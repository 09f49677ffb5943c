-- Inputs that a node does one after another, and what serving wrote of them.
use Rattle.do_link.specs.declared.script.ScriptEvent.TheVariants as event
use Rattle.std.specs.Prelude.{Bool, List, Ok, [], false, true, ℕ, ◌++◌, ◌∷◌, ◌≡◌}
use Rattle.std.specs.List.{AllByRecursion}
use Rattle.do_grammar.specs.Grammar.{IsBytes}
use Rattle.do_link.specs.Told.{Came, Told}
use Rattle.do_network.specs.declared.input.Input.{Input}
use Rattle.do_plan.specs.Starts.{IsStartLine}
use Rattle.do_record.specs.Recorded.{record_of, recorded}
use Rattle.do_net.specs.Seen.{Seen}
use Rattle.do_sched.specs.Good.{IsPort}
use Rattle.do_serve.specs.{Answers.record_text, Hosting.site_rules, Peers.Peer, Record.block}
use Rattle.do_serve.specs.Rules.{Outgoing, Rules}
use Rattle.do_serve.specs.Serving.{How, Report, Server, ended, spent, unfinished}
use Rattle.do_recorded.specs.Inputs.{IsServed, blocks_of}

module _ {Part : Type 0} (rules : Rules Part) where
  -- the state after inputs
  abbrev pub chain_part : Part → List Input → Part
  chain_part part [] = part
  chain_part part (i ∷ is) = chain_part (rules.step part i).part is

  -- the frames that they send
  abbrev pub chain_frames : Part → List Input → List Outgoing
  chain_frames part [] = []
  chain_frames part (i ∷ is) =
      let m = rules.step part i in
      m.frames ++ chain_frames m.part is

  -- what is written of them
  abbrev pub chain_text : ℕ → Part → List Input → List ℕ
  chain_text port part [] = []
  chain_text port part (i ∷ is) =
      let m = rules.step part i in
      block port i m.done m.shown ++ chain_text port m.part is

-- peers have ports, and what came from them is bytes
abbrev pub AreHeard : List Peer → Type 0
AreHeard peers = AllByRecursion (λ p. IsPort p.port × IsBytes p.stream.rest) peers

-- a server of such peers, whose lines may stand in starts
pub record IsServer {Part : Type 0} (s : Server Part) : Type 0 where
  pub peers : AreHeard s.peers
  pub starts : AllByRecursion IsStartLine s.starts

-- what came over a link is bytes
abbrev pub CameAsBytes : Told → Type 0
CameAsBytes (Came (event.Bytes peer bytes)) = IsBytes bytes
CameAsBytes _ = Unit {0}

-- serving stopped by the line `end`
abbrev pub has_ended : How → Bool
has_ended ended = true
has_ended spent = false
has_ended unfinished = false

-- Serving from a server did these inputs one after another. The frames to be handed over begin
-- those that waited and those that the inputs send. What was written is read as their record
pub record ReadsBack (port : ℕ) (s : Server Seen) (r : Report) : Type 0 where
  pub inputs : List Input
  pub served : AllByRecursion (IsServed port) inputs
  pub later : List Outgoing
  pub frames : r.frames ++ later ≡ s.core.waiting ++ chain_frames site_rules s.core.part inputs
  pub reads : record_of (record_text port r)
      ≡ Ok (recorded port (blocks_of site_rules port 2 s.core.part inputs) (has_ended r.how))
