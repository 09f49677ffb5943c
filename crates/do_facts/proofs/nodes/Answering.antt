-- Where the answer of an invocation goes, or its exception, is moves of the node.
use Rattle.do_behave.specs.declared.invocation.Reason.TheVariants as reasons
use Rattle.do_machine.specs.declared.item.Item.TheVariants as items
use Rattle.do_facts.specs.nodes.Moves as moves
use Rattle.std.proofs.Common.{◌≡◌, ℕ, true, not, List, [], ◌∷◌, refl, sym, ap, subst, append-nil}
use Rattle.std.{proofs.Common.arith, specs.Prelude.{None, Option, Some}}
use Rattle.do_base.specs.declared.events.exception.Exc.{Exc, TheVariants.TooLarge}
use Rattle.do_behave.specs.declared.invocation.Answer.{Answer, TheVariants.{Given, Raised}}
use Rattle.do_behave.specs.declared.invocation.{Handler.Handler, Reason.Reason}
use Rattle.do_class.specs.declared.packet.Packet.{Packet}
use Rattle.do_machine.specs.declared.{node.Node.Node, state.Effect.Effect, verdict.Verdict.Verdict}
use Rattle.do_machine.specs.{declared.verdict.Verdict.TheVariants.Fails, Context.RunContext}
use Rattle.do_machine.specs.{Effect.{only, queueing}, Packing.packed_for, State.is_open}
use Rattle.do_machine.specs.lend.Lending.{lending, lends_of, posting}
use Rattle.do_machine.specs.run.Answers.{answer_placed, oneway_answer, replying}
use Rattle.do_machine.specs.run.{Delivery.{delivery, failing, popped}, Run.state_rule}
use Rattle.do_facts.proofs.Chains.{either, found_or, is_closed, not_closed}
use Rattle.do_facts.{proofs.links.TokensOfMessages.names_lent, specs.nodes.Atoms.packet_atoms}
use Rattle.do_facts.specs.nodes.Judged.{InAnswer, Delivered, IsPacked, IsUnheard, Judge, Judged}
use Rattle.do_facts.specs.nodes.{Judged.{Since, ending, gives, run_of}, Moves.{Top, Wrote}}
use Rattle.do_facts.proofs.nodes.{Sending.{few_lent, packet_sent, since_itself}, Walks.Does}
use Rattle.do_facts.proofs.nodes.Walks.{DoesTo, Walks, whole_behind, once, walks_on, walks_once}

module _ (j : Judge) (t : Top) (tied : j.first.stack ≡ t.top ∷ t.below) where
  -- the node
  abbrev n : Node
  n = j.first

  -- what the run is judged by
  abbrev r : RunContext
  r = run_of j t

  -- the node once it lent what a message names
  abbrev pub lent : ℕ → Packet → Node
  lent to packet = lending (lends_of to packet) n

  -- so much stayed of it
  pub since_lent : (to : ℕ) (packet : Packet) → Since n (lent to packet)
  since_lent to packet = record {
    new = [];
    port = refl;
    root = refl;
    stack = refl;
    ends = refl;
    call = refl;
    late = refl;
    heap = sym (append-nil n.heap);
    serial = omega arith;
  }

  -- an effect of the node
  abbrev pub Comes : List Wrote → Effect → Type 0
  Comes written e = DoesTo j n [] written e

  module _ (v : Verdict) (rule : state_rule j.act r t.top.state ≡ Some v) where
    -- the verdict was given
    pub judged : (m : Node) → Since n m → Judged j v t m
    judged m since =
        record { since = since; stack = tied; rule = rule }

    -- and now
    pub now : Judged j v t n
    now = judged n (since_itself n)

    module _ (a : Answer) (is : gives v t.top ≡ Some a) where
      -- it ends the invocation with this answer
      delivered : (m : Node) → Since n m → Delivered j a t m
      delivered m since = record { verdict = v; judged = judged m since; answer = is }

      -- nobody waits for it
      finishes : (reason : Reason) → t.top.reason ≡ reason → IsUnheard n reason →
          Does j n [] [] (popped r) [] (ending reason a)
      finishes reason h unheard =
          once j n (moves.Finishes t a (ending reason a)) (
            ap (λ x. ending x a) (sym h),
            subst (IsUnheard n) (sym h) unheard,
            delivered n (since_itself n),
          ) [] refl

    -- an answer that goes back to a peer
    replies : (to number : ℕ) → t.top.reason ≡ reasons.Call to number →
        is_open n to ≡ true → (a : Answer) → gives v t.top ≡ Some a →
        Comes [] (replying r to number a (popped r))
    replies to number h o (Raised e) is =
        once j n (moves.Raises t to number e)
        (Raised e, o, h, refl, delivered (Raised e) is n (since_itself n)) _ refl
    replies to number h o (Given x outs) is =
        found_or (Comes [])
        (packed_for r.context to (answer_placed r x outs))
        (queueing to (items.Raised number TooLarge) (popped r))
        (λ packet. posting to packet (items.Reply number packet) (popped r))
        (once j n (moves.Raises t to number TooLarge)
        (Given x outs, o, h, refl, delivered (Given x outs) is n (since_itself n)) _ refl)
        (λ packet found.
        let d : Delivered j (Given x outs) t n =
        delivered (Given x outs) is n (since_itself n) in
        let packed : IsPacked j to packet = InAnswer t x outs d found in
        let since = since_lent to packet in
        record {
          walk = subst
              (λ xs. Walks j n [] [] (lending (lends_of to packet) (popped r)) xs [])
              (sym (whole_behind to (packet_atoms packet) (items.Reply number packet)))
              (walks_on j
              (packet_sent j to packet packed o
              (names_lent r.context to (answer_placed r x outs) packet found)
              (few_lent r.context to (answer_placed r x outs) packet found))
              (walks_once j (lent to packet)
              (moves.Replies t to number x outs packet)
              (o, h, delivered (Given x outs) is (lent to packet) since, packed)));
        })

    -- an answer that nobody hears
    unheard : (peer : ℕ) → t.top.reason ≡ reasons.Oneway peer → (a : Answer) →
        gives v t.top ≡ Some a → Comes [] (oneway_answer a (popped r))
    unheard peer h (Given x outs) is = finishes (Given x outs) is (reasons.Oneway peer) h tt
    unheard peer h (Raised e) is = finishes (Raised e) is (reasons.Oneway peer) h tt

    -- an answer, wherever it goes
    pub delivers : (a : Answer) → gives v t.top ≡ Some a → (reason : Reason) →
        t.top.reason ≡ reason → Comes [] (delivery r a reason)
    delivers a is reasons.Start h = finishes a is reasons.Start h tt
    delivers a is reasons.Local h =
        once j n (moves.Answers t a) (h, delivered a is n (since_itself n)) [] refl
    delivers a is (reasons.Oneway peer) h = unheard peer h a is
    delivers a is (reasons.Call peer number) h =
        either (Comes []) (not (is_open n peer)) (only (popped r))
        (replying r peer number a (popped r))
        (λ c. finishes a is (reasons.Call peer number) h (is_closed (is_open n peer) c))
        (λ o. replies peer number h (not_closed (is_open n peer) o) a is)

  -- an exception, caught or not
  pub fails : (e : Exc) → state_rule j.act r t.top.state ≡ Some (Fails e) → (h : Option Handler) →
      t.top.handler ≡ h → Comes [] (failing r e h)
  fails e rule None h =
      delivers (Fails e) rule (Raised e)
      (ap (λ x. elim x [ None ↦ Some (Raised e) | Some k ↦ None ]) h) t.top.reason refl
  fails e rule (Some k) h =
      once j n (moves.Catches t e k) (h, now (Fails e) rule) [] refl
