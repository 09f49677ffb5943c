-- A run leaves a node that names only what is at hand.
use Rattle.do_behave.specs.declared.invocation.Reason.TheVariants as reasons
use Rattle.do_machine.specs.declared.item.Item.TheVariants as items
use Rattle.do_machine.specs.declared.verdict.Request.TheVariants as requests
use Rattle.std.proofs.Common.{◌≡◌, ◌∙◌, ◌==◌, ℕ, Bool, true, not, List, [], ◌∷◌, refl, arith}
use Rattle.std.specs.Prelude.{None, Option, Some, is_some, option_map, slice_set}
use Rattle.std.specs.List.{AllByRecursion}
use Rattle.do_base.specs.{names.Names.ObjectName, declared.events.exception.Exc.Exc}
use Rattle.do_base.specs.declared.events.exception.Exc.TheVariants.{TooLarge}
use Rattle.do_base.specs.declared.values.value.Value.{Value, TheVariants.{Nil, Obj, Text}}
use Rattle.do_class.specs.{Class.Class, declared.ids.ClassId.ClassId}
use Rattle.do_behave.specs.declared.{act.Write.Write, invocation.Answer.Answer}
use Rattle.do_behave.specs.declared.invocation.{Answer.TheVariants.{Given, Raised}, Handler.Handler}
use Rattle.do_behave.specs.declared.invocation.{Invocation.Invocation, InvState.InvState}
use Rattle.do_behave.specs.declared.invocation.{InvState.TheVariants.Below, Reason.Reason}
use Rattle.do_machine.specs.declared.node.{Lend.Lend, Node.Node, Stored.Stored}
use Rattle.do_machine.specs.declared.{state.Effect.Effect, verdict.Request.Request}
use Rattle.do_machine.specs.declared.verdict.Verdict.{Verdict, TheVariants.{Asks, Begins, Fails}}
use Rattle.do_machine.specs.declared.verdict.Verdict.TheVariants.{Goes, Makes, Returns, Says, Steps}
use Rattle.do_machine.specs.declared.verdict.Verdict.TheVariants.{Tells, Uses, Vends}
use Rattle.do_machine.specs.{Context.{Context, RunContext, method_for}, Effect.{only, queueing}}
use Rattle.do_machine.specs.{Lists.change_first, Packing.packed_for, State.{is_open, own, stored}}
use Rattle.do_machine.specs.held.Refers.{answer_values, state_values}
use Rattle.do_machine.specs.lend.Lending.{lending, posting}
use Rattle.do_machine.specs.run.Answers.{answer_placed, exc_name, oneway_answer, replying}
use Rattle.do_machine.specs.run.{Changes.{goes_to, stands, with_writes}, Delivery.delivery}
use Rattle.do_machine.specs.run.{Delivery.{failing, popped, with_top}, Fresh.{blank, with_objects}}
use Rattle.do_machine.specs.run.Run.{Acting, run_effect, run_on, state_rule}
use Rattle.do_machine.specs.run.Verdicts.{effect_of, waits_for}
use Rattle.do_facts.proofs.Chains.{either, found_or}
use Rattle.do_facts.proofs.EachOfLists.{each_changed, each_joined, each_set}
use Rattle.do_at_hand.{specs.AtHand.{ShowsNames, is_at_hand}, proofs.Shown.{AllName, Names, nil}}
use Rattle.do_at_hand.proofs.{Shown.{one, texts}, Within.{AtHand, InvocationWithin, begins}}
use Rattle.do_at_hand.proofs.Within.{blank_within, more_at_hand, node_weaker, numbered, own_hand}
use Rattle.do_at_hand.proofs.Within.{own_is, still_at_hand, stored_behind, stored_one}
use Rattle.do_at_hand.proofs.Changes.{VerdictIfWithin, VerdictWithin, answered_below, outs_set}
use Rattle.do_at_hand.proofs.{Changes.{slots_written, went_on}, Acts.judged}

-- a method is found for an own object that is stored
pub stored_own : (table : List Class) (found : Option Stored) (selector : List ℕ) →
    is_some (method_for table (option_map (λ x. x.class) found) selector) ≡ true →
    is_some found ≡ true
stored_own table None selector h = h
stored_own table (Some x) selector h = refl

-- what is stored is so once slots of one object were written
written_still : (k serial : ℕ) (ws : List Write) (heap : List Stored) →
    is_some (stored k (change_first (λ x. x.serial == serial) (with_writes ws) heap))
    ≡ is_some (stored k heap)
written_still k serial ws [] = refl
written_still k serial ws (x ∷ heap) = grind (arith, written_still k serial ws heap)

-- the node of an effect names only what is at hand there
abbrev pub Good : Effect → Type 0
Good e = AtHand e.node

-- so it is with an effect, where there is one
abbrev pub GoodIf : Option Effect → Type 0
GoodIf None = Unit {0}
GoodIf (Some e) = Good e

-- ---- runs

module _ (r : RunContext) (ok : AtHand r.context.node)
    (top : InvocationWithin (is_at_hand r.context.node) r.top)
    (below : AllByRecursion (InvocationWithin (is_at_hand r.context.node)) r.below) where
  -- the node
  abbrev n : Node
  n = r.context.node

  -- what is at hand
  abbrev H : ObjectName → Bool
  H = is_at_hand n

  -- the node with another top invocation
  topped : (i : Invocation) → InvocationWithin H i → AtHand (with_top r i)
  topped i h = record { heap = ok.heap; stack = (h, below); root = ok.root }

  -- the node without it
  without_top : AtHand (popped r)
  without_top = record { heap = ok.heap; stack = below; root = ok.root }

  -- a node that lends
  lent : (lends : List Lend) (m : Node) → AtHand m → AtHand (lending lends m)
  lent lends m h = record { heap = h.heap; stack = h.stack; root = h.root }

  -- an answer that goes back to a peer
  replies : (peer number : ℕ) (a : Answer) (m : Node) → AtHand m → Good (replying r peer number a m)
  replies peer number (Raised e) m k = k
  replies peer number (Given v outs) m k =
      found_or Good (packed_for r.context peer (answer_placed r v outs))
      (queueing peer (items.Raised number TooLarge) m)
      (λ packet. posting peer packet (items.Reply number packet) m) k
      (λ packet is. lent _ m k)

  -- an answer that nobody waits for
  drops : (a : Answer) (m : Node) → AtHand m → Good (oneway_answer a m)
  drops (Given v outs) m h = h
  drops (Raised e) m h = h

  -- an answer, wherever it goes
  delivers : (a : Answer) (reason : Reason) → AllName H (answer_values a) →
      Good (delivery r a reason)
  delivers a reasons.Start h = without_top
  delivers a reasons.Local h =
      record { heap = ok.heap; stack = answered_below H a r.below h below; root = ok.root }
  delivers a (reasons.Oneway peer) h = drops a (popped r) without_top
  delivers a (reasons.Call peer number) h =
      either Good (not (is_open n peer)) (only (popped r)) (replying r peer number a (popped r))
      (λ _. without_top) (λ _. replies peer number a (popped r) without_top)

  -- an exception, caught or not
  fails : (e : Exc) (handler : Option Handler) → Good (failing r e handler)
  fails e None = delivers (Raised e) r.top.reason tt
  fails e (Some k) =
      topped _ (went_on H k.into (Text (exc_name e)) k.pc r.top (texts H (exc_name e)) top)

  -- the top invocation as it waits
  standing : (pc into : ℕ) (outs : List ℕ) (state : InvState) → AllName H (state_values state) →
      AtHand (with_top r (stands pc into outs state r.top))
  standing pc into outs state h =
      topped _ (record { object = top.object; locals = top.locals; answer = h })

  -- a new object
  makes : (class : ClassId) (into pc : ℕ) → Good (effect_of r (Makes class into pc))
  makes class into pc =
      let made = own n n.next_serial in
      let new = blank r.context.table class ∷ [] in
      let m = with_objects new n in
      let K = is_at_hand m in
      let more = more_at_hand n new in
      let there : K made ≡ true =
      own_hand m made (own_is n n.next_serial)
      (stored_behind n.next_serial n.heap _
      (stored_one n.next_serial (blank r.context.table class) [])) in
      let was = node_weaker H K more (with_top r r.top)
      (record { heap = ok.heap; stack = (top, below); root = ok.root }) in
      record {
        heap = each_joined (λ x. AllName K x.slots) n.heap _ was.heap
            (numbered K n.next_serial new (blank_within K r.context.table class, tt));
        stack = (went_on K into (Obj made) pc r.top (one K made there) was.stack.0, was.stack.1);
        root = was.root;
      }

  -- slots of an object are written
  writes_own : (pc : ℕ) (locals : List Value) (handler : Option Handler) (ws : List Write) →
      AllName H locals → AllByRecursion (λ w. Names H w.value) ws →
      Good (effect_of r (Steps pc locals handler ws))
  writes_own pc locals handler ws h k =
      let e = effect_of r (Steps pc locals handler ws) in
      node_weaker H (is_at_hand e.node)
      (still_at_hand n e.node refl
      (λ j there. written_still j r.top.object.serial ws n.heap ∙ there) (λ o other known. known))
      e.node
      (record {
        heap = each_changed (λ x. AllName H x.slots) (λ x. x.serial == r.top.object.serial)
            (with_writes ws) (λ x g. slots_written H x.slots ws g k) n.heap ok.heap;
        stack = (record { object = top.object; locals = h; answer = top.answer }, below);
        root = ok.root;
      })

  -- a request to a peer
  asks : (peer : ℕ) (request : Request) (into : ℕ) (outs : List ℕ) (pc : ℕ) →
      Good (effect_of r (Asks peer request into outs pc))
  asks peer requests.Root into outs pc =
      let kept = standing pc into outs (waits_for n peer requests.Root) tt in
      record { heap = kept.heap; stack = kept.stack; root = kept.root }
  asks peer (requests.Call method x) into outs pc =
      let kept = standing pc into outs (waits_for n peer (requests.Call method x)) tt in
      record { heap = kept.heap; stack = kept.stack; root = kept.root }

  -- the effect of each verdict
  verdict_effect : (v : Verdict) → VerdictWithin H n.port v → Good (effect_of r v)
  verdict_effect (Goes into value pc) h = topped _ (went_on H into value pc r.top h top)
  verdict_effect (Uses result outs) h =
      topped _ (record {
        object = top.object;
        locals = outs_set H r.top.outs outs (slice_set r.top.locals r.top.into result) h.1
            (each_set (Names H) r.top.locals r.top.into result h.0 top.locals);
        answer = tt;
      })
  verdict_effect (Steps pc locals handler writes) h = writes_own pc locals handler writes h.0 h.1
  verdict_effect (Makes class into pc) h = makes class into pc
  verdict_effect (Vends root pc) h = record {
    heap = ok.heap;
    stack = (record { object = top.object; locals = top.locals; answer = top.answer }, below);
    root = h;
  }
  verdict_effect (Says value pc) h =
      topped (goes_to pc r.top)
      (record { object = top.object; locals = top.locals; answer = top.answer })
  verdict_effect (Asks peer request into outs pc) h = asks peer request into outs pc
  verdict_effect (Begins o method values into outs pc) h =
      let kept = standing pc into outs Below tt in
      record {
        heap = kept.heap;
        stack = (begins H o method reasons.Local values h.0 h.1, kept.stack);
        root = kept.root;
      }
  verdict_effect (Tells peer m into pc) h =
      lent _ _ (topped _ (went_on H into Nil pc r.top (nil H) top))
  verdict_effect (Returns result outs) h = delivers (Given result outs) r.top.reason h
  verdict_effect (Fails e) h = fails e r.top.handler

  module _ (act : Acting) (shows : ShowsNames r.context.table act) where
    -- the effect of a verdict, where there is one
    verdict_effect_if : (v : Option Verdict) → VerdictIfWithin H n.port v →
        GoodIf (option_map (effect_of r) v)
    verdict_effect_if None h = tt
    verdict_effect_if (Some v) h = verdict_effect v h

    -- what the state of the top invocation leads to
    stated : (state : InvState) → AllName H (state_values state) →
        GoodIf (option_map (effect_of r) (state_rule act r state))
    stated state h =
        verdict_effect_if (state_rule act r state)
        (judged H r top ok.root ok.heap act shows state h)

-- a run, by the stack
run_by : (act : Acting) (c : Context) → ShowsNames c.table act → AtHand c.node →
    (stack : List Invocation) → AllByRecursion (InvocationWithin (is_at_hand c.node)) stack →
    GoodIf (run_on act c stack)
run_by act c shows ok [] h = tt
run_by act c shows ok (i ∷ is) h =
    stated (record { context = c; top = i; below = is }) ok h.0 h.1 act shows i.state h.0.answer

-- a run
pub run_good : (act : Acting) (c : Context) → ShowsNames c.table act → AtHand c.node →
    GoodIf (run_effect act c)
run_good act c shows ok = run_by act c shows ok c.node.stack ok.stack
