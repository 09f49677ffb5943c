-- Runs, starts and time-outs are steady, but that a call becomes late by a time-out.
use Rattle.do_machine.specs.declared.item.Item.TheVariants as items
use Rattle.do_machine.specs.declared.verdict.Request.TheVariants as requests
use Rattle.std.proofs.Common.{◌≡◌, ℕ, true, false, List, [], ◌∷◌, refl, arith}
use Rattle.do_base.specs.declared.values.value.Value.{Value, TheVariants.{Nil, Obj, Text}}
use Rattle.do_class.specs.{Class.Class, declared.packet.Packet.Packet}
use Rattle.do_behave.specs.declared.invocation.Answer.TheVariants.{Given}
use Rattle.do_machine.specs.declared.{node.Node.Node, state.Effect.Effect, verdict.Request.Request}
use Rattle.do_machine.specs.declared.verdict.Verdict.{Verdict, TheVariants.{Asks, Fails, Makes}}
use Rattle.do_machine.specs.declared.verdict.Verdict.TheVariants.{Returns, Says, Tells}
use Rattle.do_machine.specs.{Context.{Context, RunContext}, Start.start_effect, State.own}
use Rattle.do_machine.specs.{ends.TimeOut.time_out, lend.Lending.{lending, lends_of, posting}}
use Rattle.do_machine.specs.run.Answers.{answer_line, exc_name}
use Rattle.do_machine.specs.run.Changes.{goes_on, goes_to, stands, uses_number}
use Rattle.do_machine.specs.run.{Delivery.{below_answered, popped, with_top}, Fresh.{blank, pushed}}
use Rattle.do_machine.specs.run.{Fresh.{with_objects, with_stack}, Run.{Acting, run_effect}}
use Rattle.do_machine.specs.run.Verdicts.{effect_of, requesting, waits_for}
use Rattle.do_facts.proofs.Deliveries.{Delivers, by_delivery, by_failing}
use Rattle.do_facts.proofs.walk.Done.{Done, alone, queues, shows}
use Rattle.do_facts.proofs.walk.Possible.{by_begins, by_giving_up, by_verdicts}
use Rattle.do_facts.proofs.machine.follows.Steady.{IsSteady, IsSteadyIf, NoRelease, Steady, calls}
use Rattle.do_facts.proofs.machine.follows.Steady.{facts, lends, makes, steady, is_release}
use Rattle.do_machine.specs.declared.item.Item.{Item}

module _ (r : RunContext) where
  -- what comes of the node
  abbrev Comes : Effect → Type 0
  Comes e = IsSteady false false r.context.node e

  -- a node with another stack
  so : (m : Node) → facts m ≡ facts r.context.node → Steady false false r.context.node m
  so = steady false false r.context.node

  -- a message is posted, by an item that releases nothing
  posts : (peer : ℕ) (packet : Packet) (item : Item) → is_release item ≡ false → (m : Node) →
      Steady false false r.context.node m → Comes (posting peer packet item m)
  posts peer packet item none m h =
      queues peer item (lending (lends_of peer packet) m) (λ p. none)
      (lends false false r.context.node (lends_of peer packet) m h)

  -- an answer, wherever it goes
  delivers : Delivers (λ reason e. Comes e) r
  delivers = record {
    shown = λ a. shows (answer_line a) (popped r) (so (popped r) refl);
    below = λ a. alone _ (so (with_stack (below_answered a r.below) r.context.node) refl);
    unheard = λ peer. alone (popped r) (so (popped r) refl);
    told = λ peer e. shows _ (popped r) (so (popped r) refl);
    dropped = λ peer number o. alone (popped r) (so (popped r) refl);
    raised = λ peer number e o. queues peer _ (popped r) (λ p. refl) (so (popped r) refl);
    replied = λ peer number v outs packet o q.
        posts peer packet (items.Reply number packet) refl (popped r) (so (popped r) refl);
    caught = λ e h. alone _ (so (with_top r (goes_on h.into (Text (exc_name e)) h.pc r.top)) refl);
  }

  -- a request to a peer
  by_requesting : (peer number : ℕ) (request : Request) (m : Node) →
      Steady false false r.context.node m → Comes (requesting peer number request m)
  by_requesting peer number requests.Root m h = queues peer _ m (λ p. refl) h
  by_requesting peer number (requests.Call method x) m h =
      posts peer x.packet (items.Call number x) refl m h

  -- each verdict
  by_verdict : (v : Verdict) → Comes (effect_of r v)
  by_verdict (Makes class into pc) =
      let made = own r.context.node r.context.node.next_serial in
      let m = with_top r (goes_on into (Obj made) pc r.top) in
      let new = blank r.context.table class ∷ [] in
      alone (with_objects new m) (makes false false r.context.node new m (so m refl))
  by_verdict (Says value pc) = shows _ (with_top r (goes_to pc r.top)) (so _ refl)
  by_verdict (Asks peer request into outs pc) =
      let m = with_top r (stands pc into outs (waits_for r.context.node peer request) r.top) in
      by_requesting peer r.context.node.next_call request (uses_number m)
      (calls false false r.context.node m (so m refl))
  by_verdict (Tells peer m into pc) =
      posts peer m.packet (items.Oneway m) refl (with_top r (goes_on into Nil pc r.top))
      (so _ refl)
  by_verdict (Returns result outs) =
      by_delivery (λ reason e. Comes e) r delivers (Given result outs) r.top.reason
  by_verdict (Fails e) = by_failing (λ reason e. Comes e) r delivers e r.top.handler
  by_verdict v = alone (effect_of r v).node (so _ refl)

-- a run
pub by_run : (act : Acting) (c : Context) → IsSteadyIf false false c.node (run_effect act c)
by_run act c =
    by_verdicts (Done (Steady false false c.node) (NoRelease false)) act c
    (λ top below. by_verdict (record { context = c; top = top; below = below }))

-- a start
pub by_start : (table : List Class) (selector : List ℕ) (values : List Value) (n : Node) →
    IsSteadyIf false false n (start_effect table selector values n)
by_start table selector values n =
    by_begins (Done (Steady false false n) (NoRelease false)) table selector values n
    (λ i. alone (pushed i n) (steady false false n (pushed i n) refl))

-- a time-out
pub by_time_out : (n : Node) → IsSteadyIf true false n (time_out n)
by_time_out n =
    by_giving_up (Done (Steady true false n) (NoRelease false)) n
    (λ call peer what i below. alone _ (grind arith))
