-- A run is moves of the node.
use Rattle.do_behave.specs.declared.invocation.InvState.TheVariants as states
use Rattle.do_machine.specs.declared.item.Item.TheVariants as items
use Rattle.do_machine.specs.declared.verdict.Request.TheVariants as requests
use Rattle.do_facts.specs.nodes.Moves as moves
use Rattle.do_facts.proofs.Chains.{first_passes}
use Rattle.std.proofs.Common.{◌≡◌, ℕ, true, List, [], ◌∷◌, refl, sym, ap, subst, length, ◌≤◌}
use Rattle.std.specs.Prelude.{None, Option, Some, option_map}
use Rattle.do_behave.specs.declared.invocation.{Answer.TheVariants.Given, Invocation.Invocation}
use Rattle.do_behave.specs.declared.invocation.InvState.{InvState}
use Rattle.do_class.specs.declared.packet.Packet.{Packet}
use Rattle.do_machine.specs.declared.{item.Message.Message, node.Node.Node, state.Effect.Effect}
use Rattle.do_machine.specs.declared.verdict.Verdict.{Verdict, TheVariants.{Asks, Begins, Fails}}
use Rattle.do_machine.specs.declared.verdict.Verdict.TheVariants.{Goes, Makes, Returns, Says, Steps}
use Rattle.do_machine.specs.declared.verdict.Verdict.TheVariants.{Tells, Uses, Vends}
use Rattle.do_machine.specs.{Context.RunContext, Objects.object_at, State.{is_known, is_open}}
use Rattle.do_machine.specs.{lend.Lending.{lending, lends_of}, run.Fresh.blank}
use Rattle.do_machine.specs.run.Run.{answer_rule, next_act, run_effect, run_on, state_rule}
use Rattle.do_machine.specs.run.{Acts.act_rule, Verdicts.effect_of}
use Rattle.do_facts.{specs.Net.noted, proofs.nodes.Messages.IsMessage}
use Rattle.do_facts.specs.nodes.{Atoms.{Target, packet_atoms}, Judged.{Asked, InMessage, Told}}
use Rattle.do_facts.specs.nodes.{Judged.{IsSaid, Judge, context_of, run_of}, Moves.{Top, Wrote}}
use Rattle.do_facts.proofs.nodes.Ruled.{IsRuled, by_act, by_answer, run_wrote, wrote_at, wrote_in}
use Rattle.do_facts.proofs.nodes.Sending.{packet_sent}
use Rattle.do_packet.specs.Limits.{most_names}
use Rattle.do_facts.proofs.nodes.Walks.{DoesTo, Walks, whole_behind, once, walks_on, walks_once}
use Rattle.do_facts.proofs.nodes.Answering.{delivers, fails, judged, now, since_lent}

module _ (j : Judge) (t : Top) (tied : j.first.stack ≡ t.top ∷ t.below) where
  -- the node
  abbrev n : Node
  n = j.first

  -- what the run is judged by
  abbrev r : RunContext
  r = run_of j t

  -- the node once it lent what a message names
  abbrev lent : ℕ → Packet → Node
  lent to packet = lending (lends_of to packet) n

  -- an effect of the node
  abbrev Comes : List Wrote → Effect → Type 0
  Comes written e = DoesTo j n [] written e

  -- a message that is sent
  message_sent : (to : ℕ) (m : Message) → IsSaid j to m n → is_open n to ≡ true →
      IsMessage n to m → length (lends_of to m.packet) ≤ most_names →
      Walks j n [] [] (lent to m.packet) (noted to (Target m.target ∷ packet_atoms m.packet)) []
  message_sent to m said o may few =
      walks_on j
      (walks_once j n (moves.Speaks to m.target)
      (m, o, refl, first_passes (is_known n (object_at to m.target)) (is_open n to) may.0, said))
      (packet_sent j to m.packet (InMessage m said refl) o may.1 few)

  -- each verdict
  by_verdict : (v : Verdict) → state_rule j.act r t.top.state ≡ Some v →
      IsRuled j t (next_act j.act r) v →
      Comes (wrote_in t.top v) (effect_of r v)
  by_verdict (Goes into value pc) rule h =
      once j n (moves.Goes t into value pc) (now j t tied (Goes into value pc) rule) [] refl
  by_verdict (Uses result outs) rule h =
      once j n (moves.Uses t result outs) (now j t tied (Uses result outs) rule) [] refl
  by_verdict (Steps pc locals handler writes) rule h =
      once j n (moves.Steps t pc locals handler writes)
      (now j t tied (Steps pc locals handler writes) rule, h.0, h.1) [] refl
  by_verdict (Makes class into pc) rule h =
      once j n (moves.Makes t (blank j.table class) into pc)
      (class, now j t tied (Makes class into pc) rule, refl, refl) [] refl
  by_verdict (Vends root pc) rule h =
      once j n (moves.Vends t root pc) (now j t tied (Vends root pc) rule) [] refl
  by_verdict (Says value pc) rule h =
      once j n (moves.Says t value pc) (now j t tied (Says value pc) rule) [] refl
  by_verdict (Begins o method values into outs pc) rule h =
      once j n (moves.Begins t o method values into outs pc)
      (now j t tied (Begins o method values into outs pc) rule, h) [] refl
  by_verdict (Asks to requests.Root into outs pc) rule h =
      once j n (moves.AsksRoot t to into outs pc)
      (h, now j t tied (Asks to requests.Root into outs pc) rule) _ refl
  by_verdict (Asks to (requests.Call method m) into outs pc) rule h =
      let v : Verdict = Asks to (requests.Call method m) into outs pc in
      let k = lent to m.packet in
      let item = items.Call n.next_call m in
      record {
        walk = subst
            (λ xs. Walks j n [] [] (effect_of r v).node xs [])
            (sym (whole_behind to (Target m.target ∷ packet_atoms m.packet) item))
            (walks_on j
            (message_sent to m (Asked t method into outs pc (now j t tied v rule)) h.0 h.1 h.2)
            (walks_once j k (moves.Calls t to method m into outs pc)
            (h.0, judged j t tied v rule k (since_lent j t tied to m.packet))));
      }
  by_verdict (Tells to m into pc) rule h =
      let v : Verdict = Tells to m into pc in
      let k = lent to m.packet in
      let item = items.Oneway m in
      record {
        walk = subst
            (λ xs. Walks j n [] [] (effect_of r v).node xs [])
            (sym (whole_behind to (Target m.target ∷ packet_atoms m.packet) item))
            (walks_on j
            (message_sent to m (Told t into pc (now j t tied v rule)) h.0 h.1 h.2)
            (walks_once j k (moves.Tells t to m into pc)
            (h.0, judged j t tied v rule k (since_lent j t tied to m.packet))));
      }
  by_verdict (Returns result outs) rule h =
      delivers j t tied (Returns result outs) rule (Given result outs) refl t.top.reason refl
  by_verdict (Fails e) rule h = fails j t tied e rule t.top.handler refl

  -- an effect is moves that write so much, or there is none and nothing is written
  abbrev pub IfComes : List Wrote → Option Effect → Type 0
  IfComes written None = written ≡ []
  IfComes written (Some e) = Comes written e

  -- by the state of the top invocation
  pub by_state : (state : InvState) → t.top.state ≡ state →
      IfComes (wrote_at t.top state (next_act j.act r))
      (option_map (effect_of r) (state_rule j.act r state))
  by_state states.Running h =
      let a = next_act j.act r in
      let ruled = by_act j t h a in
      subst (λ ws. Comes ws (effect_of r (act_rule r a))) ruled.1
      (by_verdict (act_rule r a) (ap (state_rule j.act r) h) ruled.0)
  by_state (states.Answered a) h =
      let ruled = by_answer j t (next_act j.act r) a in
      subst (λ ws. Comes ws (effect_of r (answer_rule a))) ruled.1
      (by_verdict (answer_rule a) (ap (state_rule j.act r) h) ruled.0)
  by_state _ h = refl

module _ (j : Judge) where
  -- an effect that takes nothing is moves that write so much, or there is none and nothing is
  -- written
  abbrev pub IfDoes : List Wrote → Option Effect → Type 0
  IfDoes written None = written ≡ []
  IfDoes written (Some e) = DoesTo j j.first [] written e

  -- a run by the stack
  by_run_on : (stack : List Invocation) → j.first.stack ≡ stack →
      IfDoes (run_wrote j stack) (run_on j.act (context_of j) stack)
  by_run_on [] h = refl
  by_run_on (i ∷ is) h =
      let t : Top = record { top = i; below = is } in
      go t h (wrote_at i i.state (next_act j.act (run_of j t)))
      (option_map (effect_of (run_of j t)) (state_rule j.act (run_of j t) i.state))
      (by_state j t h i.state refl)
    where
      go : (t : Top) (h : j.first.stack ≡ t.top ∷ t.below) (written : List Wrote)
          (found : Option Effect) → IfComes j t h written found → IfDoes written found
      go t h written None k = k
      go t h written (Some e) k = k

  -- a run
  pub by_run : IfDoes (run_wrote j j.first.stack) (run_effect j.act (context_of j))
  by_run = by_run_on j.first.stack refl
