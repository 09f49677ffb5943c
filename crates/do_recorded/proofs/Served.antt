-- Serving does inputs one after another.
use Rattle.std.proofs.Common.{List, [], ap, append_assoc, arith, refl, suc, sym, zero, ℕ, ◌++◌, ◌+◌}
use Rattle.std.proofs.{Common.{◌∙◌, ◌∷◌, ◌≡◌, ◌≤◌}, lemmas.List.append-nil}
use Rattle.std.specs.{List.AllByRecursion, Prelude.{None, Option, Some}}
use Rattle.do_sched.specs.Good.{IsPort}
use Rattle.do_facts.proofs.EachOfLists.{each_joined}
use Rattle.do_network.specs.declared.input.Input.{Input}
use Rattle.do_link.specs.Told.{Came, Handed, Listened, Told}
use Rattle.do_recorded.proofs.Heard.{Serves, handed_heard, heard}
use Rattle.do_recorded.proofs.Turns.{Made, Turned, nothing, turned}
use Rattle.do_recorded.specs.Chain.{CameAsBytes, IsServer, chain_frames, chain_part, chain_text}
use Rattle.do_serve.specs.{Core.enter, Peers.Peer, Record.last_line, Rules.{Outgoing, Rules}}
use Rattle.do_serve.specs.Serving.{How, Report, Server, Turn, after_hand, after_turn, ended, ends}
use Rattle.do_serve.specs.Serving.{goes, hand, hears, polls, sent_all, serve_from, spent, turn}
use Rattle.do_serve.specs.Serving.{unfinished}
use Rattle.do_bounds.specs.Bounds.{makers}

-- what stands at the end of a record
abbrev pub end_text : How → List ℕ
end_text ended = last_line
end_text spent = []
end_text unfinished = []

module _ {Part : Type 0} (rules : Rules Part) (port : ℕ) where
  -- serving for at most so many turns did these inputs, which this tells
  pub record Does (turns : ℕ) (s : Server Part) (r : Report) : Type 0 where
    pub inputs : List Input
    pub served : AllByRecursion (Serves port) inputs
    pub few : makers inputs ≤ turns
    pub later : List Outgoing
    pub frames : r.frames ++ later
        ≡ s.core.waiting ++ chain_frames rules s.core.part inputs
    pub text : r.text ≡ chain_text rules port s.core.part inputs ++ end_text r.how

  -- inputs one after another
  parts_both : (part : Part) (is js : List Input) →
      chain_text rules port part (is ++ js)
      ≡ chain_text rules port part is ++ chain_text rules port (chain_part rules part is) js
  parts_both part [] js = refl
  parts_both part (i ∷ is) js =
      let m = rules.step part i in
      let b = (enter rules port i (record { part = part; waiting = []; taken = 0 })).1 in
      ap (λ t. b ++ t) (parts_both m.part is js)
      ∙ sym (append_assoc b (chain_text rules port m.part is)
      (chain_text rules port (chain_part rules m.part is) js))

  -- their frames
  frames_both : (part : Part) (is js : List Input) →
      chain_frames rules part (is ++ js)
      ≡ chain_frames rules part is
      ++ chain_frames rules (chain_part rules part is) js
  frames_both part [] js = refl
  frames_both part (i ∷ is) js =
      let m = rules.step part i in
      ap (λ t. m.frames ++ t) (frames_both m.part is js)
      ∙ sym (append_assoc m.frames (chain_frames rules m.part is)
      (chain_frames rules (chain_part rules m.part is) js))

  -- as often objects are made
  makers_both : (is js : List Input) → makers (is ++ js) ≡ makers is + makers js
  makers_both [] js = omega arith
  makers_both (i ∷ is) js = omega (arith, makers_both is js)

  -- serving that stopped
  stops : (turns : ℕ) (s : Server Part) (text : List ℕ) (how : How) → text ≡ end_text how →
      Does turns s (record { text = text; frames = s.core.waiting; how = how })
  stops turns s text how is = record {
    inputs = [];
    served = tt;
    few = omega arith;
    later = [];
    frames = refl;
    text = is;
  }

  -- a server whose frames were handed over
  abbrev handed : Server Part → List Peer → Server Part
  handed s peers = sent_all s peers

  module _ (turns : ℕ) (next : Server Part → List Told → Report)
      (does : (s : Server Part) (told : List Told) → IsServer s → AllByRecursion CameAsBytes told →
      Does turns s (next s told)) (s : Server Part) (peers : List Peer) where
    -- serving that goes on from a turn
    went : (t : Server Part) (text : List ℕ) (told : List Told) → IsServer t →
        AllByRecursion CameAsBytes told → Made rules port s.core.part [] t.core text →
        Does (suc turns) s (record {
          text = text ++ (next t told).text;
          frames = s.core.waiting ++ (next t told).frames;
          how = (next t told).how;
        })
    went t text told good small m =
        let d = does t told good small in
        let r = next t told in
        let part = s.core.part in
        let mid = chain_part rules part m.inputs in
        record {
          inputs = m.inputs ++ d.inputs;
          served = each_joined (Serves port) m.inputs d.inputs m.served d.served;
          few = omega (arith, makers_both m.inputs d.inputs, m.few, d.few);
          later = d.later;
          frames = append_assoc s.core.waiting r.frames d.later
              ∙ ap (λ fs. s.core.waiting ++ fs) (d.frames
              ∙ ap (λ fs. fs ++ chain_frames rules t.core.part d.inputs) m.sent
              ∙ ap (λ p. chain_frames rules part m.inputs
              ++ chain_frames rules p d.inputs) m.led
              ∙ sym (frames_both part m.inputs d.inputs));
          text = ap (λ x. x ++ r.text) m.written
              ∙ ap (λ x. chain_text rules port part m.inputs ++ x) (d.text
              ∙ ap (λ p. chain_text rules port p d.inputs ++ end_text r.how) m.led)
              ∙ sym (append_assoc (chain_text rules port part m.inputs)
              (chain_text rules port mid d.inputs) (end_text r.how))
              ∙ ap (λ x. x ++ end_text r.how) (sym (parts_both part m.inputs d.inputs));
        }

    -- what follows a turn
    follows : (x : Turn Part) (told : List Told) → IsServer (sent_all s peers) →
        AllByRecursion CameAsBytes told → Turned rules port (sent_all s peers) x →
        Does (suc turns) s (after_turn rules next s.core.waiting x (sent_all s peers) told)
    follows (goes t text) told good small m = went t text told m.1 small m.0
    follows polls [] good small m = stops (suc turns) s [] unfinished refl
    follows polls (Came event ∷ told) good small m =
        let after = sent_all s peers in
        went (record after { peers = hears rules after.core.part event after.peers }) [] told
        (record {
          peers = heard rules port after.core.part event after.peers small.0 good.peers;
          starts = good.starts;
        }) small.1 (nothing rules port after.core)
    follows polls (Handed sent ∷ told) good small m = stops (suc turns) s [] unfinished refl
    follows polls (Listened p ps failed ∷ told) good small m =
        stops (suc turns) s [] unfinished refl
    follows ends told good small m = stops (suc turns) s last_line ended refl

  -- serving
  pub serves : IsPort port → (turns : ℕ) (s : Server Part) (told : List Told) → IsServer s →
      AllByRecursion CameAsBytes told → Does turns s (serve_from rules port turns s told)
  serves at_port zero s told good small = record {
    inputs = [];
    served = tt;
    few = omega arith;
    later = s.core.waiting;
    frames = sym (append-nil s.core.waiting);
    text = refl;
  }
  serves at_port (suc turns) s told good small =
      go (hand s.core.waiting s.peers told) refl
      (λ t more still left. serves at_port turns t more still left)
    where
      go : (found : Option (List Peer × List Told)) → hand s.core.waiting s.peers told ≡ found →
          ((t : Server Part) (more : List Told) → IsServer t → AllByRecursion CameAsBytes more →
          Does turns t (serve_from rules port turns t more)) →
          Does (suc turns) s (after_hand rules port (serve_from rules port turns) s found)
      go None is does = record {
        inputs = [];
        served = tt;
        few = omega arith;
        later = [];
        frames = refl;
        text = refl;
      }
      go (Some x) is does =
          let h = handed_heard s.core.waiting s.peers told x is good.peers small in
          let still : IsServer (sent_all s x.0) = record { peers = h.0; starts = good.starts } in
          follows turns (serve_from rules port turns) does s x.0
          (turn rules port (sent_all s x.0)) x.1 still h.1
          (turned rules port at_port (sent_all s x.0) still)
