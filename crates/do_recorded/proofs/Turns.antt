-- A turn of a node that serves does inputs one after another, by one of which at most it makes
-- objects.
use Rattle.do_network.specs.declared.input.Input.TheVariants as input
use Rattle.do_plan.specs.declared.starts.StartLine.TheVariants as line
use Rattle.std.proofs.Common.{List, [], ap, append_assoc, arith, refl, sym, ℕ, ◌&&◌, ◌++◌, ◌∙◌, ◌∷◌}
use Rattle.std.proofs.{Common.{◌≡◌, ◌≤◌}, lemmas.List.append-nil}
use Rattle.std.specs.{List.AllByRecursion, Prelude.{Bool, None, Some, false, nat_le, true}}
use Rattle.do_sched.specs.{Good.{IsPort, IsStart}, declared.version.Version.TheVariants.Second}
use Rattle.do_facts.proofs.Chains.{either}
use Rattle.do_network.specs.declared.input.Input.{Input, TheVariants.{Close, Run, Start}}
use Rattle.do_plan.specs.{Starts.IsStartLine, declared.starts.StartLine.StartLine}
use Rattle.do_recorded.proofs.Heard.{FoundServed, Serves, end_served, take_served}
use Rattle.do_recorded.specs.Chain.{AreHeard, IsServer, chain_frames, chain_part, chain_text}
use Rattle.do_serve.specs.Core.{Core, Entered, enter, leave_among}
use Rattle.do_serve.specs.Peers.{Found, Peer, closed_among, end_among, take_among}
use Rattle.do_serve.specs.{Rules.{Outgoing, Rules}, Serving.{Server, Turn, ends, found_turn, goes}}
use Rattle.do_serve.specs.Serving.{goes_on, idle_turn, line_turn, polls, turn, used_if}
use Rattle.do_bounds.specs.Bounds.{makers, may_make}

-- an input makes objects once at most
makes_once : (i : Input) → may_make i ≤ 1
makes_once input.Run = omega arith
makes_once (input.Frame from f) = omega arith
makes_once (input.Start selector values) = omega arith
makes_once (input.Close peer) = omega arith
makes_once (input.Ended peer) = omega arith
makes_once input.Timeout = omega arith

module _ {Part : Type 0} (rules : Rules Part) (port : ℕ) where
  -- inputs were done from a state and frames that waited: they led to this, and this was written
  pub record Made (part : Part) (waiting : List Outgoing) (core : Core Part) (text : List ℕ) :
      Type 0 where
    pub inputs : List Input
    pub served : AllByRecursion (Serves port) inputs
    pub few : makers inputs ≤ 1
    pub led : core.part ≡ chain_part rules part inputs
    pub written : text ≡ chain_text rules port part inputs
    pub sent : core.waiting ≡ waiting ++ chain_frames rules part inputs

  -- one input
  entered : (i : Input) → Serves port i → (s : Core Part) →
      Made s.part s.waiting (enter rules port i s).0 (enter rules port i s).1
  entered i h s = record {
    inputs = i ∷ [];
    served = (h, tt);
    few = omega (arith, makes_once i);
    led = refl;
    written = sym (append-nil (enter rules port i s).1);
    sent = ap (λ fs. s.waiting ++ fs) (sym (append-nil (rules.step s.part i).frames));
  }

  -- no input
  pub nothing : (s : Core Part) → Made s.part s.waiting s []
  nothing s = record {
    inputs = [];
    served = tt;
    few = omega arith;
    led = refl;
    written = refl;
    sent = sym (append-nil s.waiting);
  }

  -- inputs behind a close
  behind_close : (peer : ℕ) → IsPort peer → (s : Core Part) (c : Core Part) (text : List ℕ) →
      Made (enter rules port (Close peer) s).0.part (enter rules port (Close peer) s).0.waiting c
      text → Made s.part s.waiting c ((enter rules port (Close peer) s).1 ++ text)
  behind_close peer at s c text m =
      let i = Close peer in
      record {
        inputs = i ∷ m.inputs;
        served = ((at, tt), m.served);
        few = omega (arith, m.few);
        led = m.led;
        written = ap (λ t. (enter rules port i s).1 ++ t) m.written;
        sent = m.sent ∙ append_assoc s.waiting (rules.step s.part i).frames
            (chain_frames rules (rules.step s.part i).part m.inputs);
      }

  -- ends that are left
  left : (ps : List Peer) (s : Core Part) → AreHeard ps →
      Made s.part s.waiting (leave_among rules port ps s).0 (leave_among rules port ps s).1
  left [] s h = nothing s
  left (p ∷ ps) s h =
      let first = enter rules port (Close p.port) s in
      let rest = leave_among rules port ps first.0 in
      either (λ (x : Entered Part). Made s.part s.waiting x.0 x.1)
      (p.is_used && rules.is_open s.part p.port) (rest.0, first.1 ++ rest.1)
      (leave_among rules port ps s)
      (λ _. behind_close p.port h.0.0 s rest.0 rest.1 (left ps first.0 h.1))
      (λ _. left ps s h.1)

  -- what a turn did, and that it leaves a server
  abbrev pub Turned : Server Part → Turn Part → Type 0
  Turned s (goes t text) = Made s.core.part s.core.waiting t.core text × IsServer t
  Turned s polls = Unit {0}
  Turned s ends = Unit {0}

  -- a line that is used where its condition holds
  used : (b : Bool) (s : Server Part) (rest : List StartLine) → IsServer s →
      AllByRecursion IsStartLine rest → Turned s (used_if b (record s { starts = rest }))
  used true s rest h good = (nothing s.core, record { peers = h.peers; starts = good })
  used false s rest h good = tt

  module _ (at_port : IsPort port) where
    -- a line of starts
    line_used : (starts : List StartLine) (s : Server Part) → IsServer s →
        AllByRecursion IsStartLine starts → Turned s (line_turn rules port starts s)
    line_used [] s h good = tt
    line_used (line.Start selector values ∷ rest) s h good =
        let is : IsStart Second port selector values = record {
          at_port = at_port;
          selects = good.0.selects;
          enough = good.0.enough;
          plain = good.0.plain;
        } in (
          entered (Start selector values) (is, is) s.core,
          record { peers = h.peers; starts = good.1 },
        )
    line_used (line.Serve n ∷ rest) s h good = used (nat_le n s.core.taken) s rest h good.1
    line_used (line.Until n ∷ rest) s h good =
        used (nat_le n (closed_among rules s.core.part s.peers)) s rest h good.1
    line_used (line.Leave ∷ rest) s h good =
        (left s.peers s.core h.peers, record { peers = h.peers; starts = good.1 })

    -- what was found
    found_used : (s : Server Part) (found : Found) (other : Turn Part) → IsServer s →
        FoundServed port found → Turned s other → Turned s (found_turn rules port s found other)
    found_used s None other good h k = k
    found_used s (Some x) other good h k =
        (entered x.0 h.0 s.core, record { peers = h.1; starts = good.starts })

    -- a turn
    pub turned : (s : Server Part) → IsServer s → Turned s (turn rules port s)
    turned s good =
        let part = s.core.part in
        let idle = idle_turn rules port s in
        let told = found_turn rules port s (end_among rules part s.peers) idle in
        either (Turned s) (rules.can_act part) (goes_on s (enter rules port Run s.core))
        (found_turn rules port s (take_among rules part s.peers) told)
        (λ _. (entered Run (tt, tt) s.core, record { peers = good.peers; starts = good.starts }))
        (λ _. found_used s (take_among rules part s.peers) told good
        (take_served rules port part s.peers good.peers)
        (found_used s (end_among rules part s.peers) idle good
        (end_served rules port part s.peers good.peers)
        (either (Turned s) (rules.is_idle part) (line_turn rules port s.starts s) polls
        (λ _. line_used s.starts s good good.starts) (λ _. tt))))
