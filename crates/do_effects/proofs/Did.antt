-- What a run does, said by the node's own state and by the definitions of a run.
use Rattle.do_machine.specs.declared.verdict.Request.TheVariants as requests
use Rattle.std.proofs.Common.{◌≡◌, ◌≤◌, ◌+◌, ℕ, List, [], ◌∷◌, ◌++◌, refl, ap, sym, ◌∙◌, subst}
use Rattle.std.{proofs.Common.{length, fold, Option, Some, None, arith}, specs.Prelude.MatchOption}
use Rattle.do_base.specs.declared.events.shown.Shown.{Shown}
use Rattle.do_behave.specs.declared.invocation.{Answer.Answer, Invocation.Invocation}
use Rattle.do_machine.specs.declared.{node.{Node.Node, Stored.Stored}, state.Effect.Effect}
use Rattle.do_machine.specs.{declared.verdict.Request.Request, Context.RunContext, Effect.only}
use Rattle.do_machine.specs.run.{Changes.answered, Delivery.{below_answered, popped}}
use Rattle.do_machine.specs.run.{Fresh.with_stack, Verdicts.requesting}
use Rattle.do_network.specs.{Counting.{named_to, of_held, of_known, over_open_ends}, Own.Own}
use Rattle.do_stack.specs.Waiting.{with_top as first_changed}
use Rattle.do_streams.specs.Streamed.{Streamed, outbox}
use Rattle.do_effects.specs.{Bounded.IsBounded, Doing.{Doing, does, doing}}
use Rattle.do_effects.specs.{Plans.{Did, IsRun, below, requested, top_popped}, Room.Needs}
use Rattle.do_effects.specs.Sends.{CanNameAll, CanSend, GivesNothingUp, names_counted, sends}
use Rattle.do_effects.specs.{Tidy.IsTidy, declared.changing.Core.Core}
use Rattle.do_effects.proofs.Alone.{KeepsCounts, only_alone, shows_alone, tidy_node}

-- what changes a tidy node, and shows, is the effect that leaves the node so
pub does_shown : (a d : Doing) (m k : Node) (lines : List Shown) → IsTidy d.own →
    KeepsCounts d.own.node m → k ≡ m → a.own ≡ record d.own { node = m } → a.out ≡ d.out →
    a.shown ≡ d.shown ++ lines → a ≡ does d (record { node = k; sent = []; shown = lines })
does_shown a d m k lines tidy kept same own out shown =
    (λ j. record { own = own j; out = out j; shown = shown j })
    ∙ sym (shows_alone d m lines tidy kept)
    ∙ ap (λ (n : Node). does d (record { node = n; sent = []; shown = lines })) (sym same)

-- and shows nothing
pub does_only : (a d : Doing) (m k : Node) → IsTidy d.own → KeepsCounts d.own.node m → k ≡ m →
    a.own ≡ record d.own { node = m } → a.out ≡ d.out → a.shown ≡ d.shown → a ≡ does d (only k)
does_only a d m k tidy kept same own out shown =
    (λ j. record { own = own j; out = out j; shown = shown j })
    ∙ sym (only_alone d m tidy kept)
    ∙ ap (λ (n : Node). does d (only n)) (sym same)

-- an effect of a changed node is that of the node before, if the node is all that changed
pub does_from : (d : Doing) (own : Own) (m k : Node) (e : Node → Effect) →
    m.port ≡ d.own.node.port → own ≡ record d.own { node = m } → k ≡ m →
    does (record d { own = own }) (e own.node) ≡ does d (e k)
does_from d own m k e port is same =
    ap (λ (p : Own). does (record d { own = p }) (e p.node)) is
    ∙ (λ j. record (does d (e m)) {
      own = record {
        node = (e m).node;
        counts = over_open_ends (e m).node
            (fold (named_to (port j)) d.own.counts (e m).sent);
        received = of_held (e m).node d.own.received;
        classes = of_known (e m).node d.own.classes;
      };
    })
    ∙ ap (λ (n : Node). does d (e n)) (sym same)

-- what is asked of a peer is sent as a request
pub requested_sends : (number peer : ℕ) (request : Request) (n : Node) →
    sends peer (requested number request) n ≡ requesting peer number request n
requested_sends number peer requests.Root n = refl
requested_sends number peer (requests.Call method m) n = refl

-- a request gives nothing up
pub requested_keeps : (number peer : ℕ) (request : Request) →
    GivesNothingUp peer (requested number request)
requested_keeps number peer requests.Root = λ r. refl
requested_keeps number peer (requests.Call method m) = λ r. refl

-- its number is none of its names
pub requested_names : (number other : ℕ) (request : Request) →
    names_counted (requested number request) ≡ names_counted (requested other request)
requested_names number other requests.Root = refl
requested_names number other (requests.Call method m) = refl

-- a request that can be sent can be sent by another stack, under another number
pub requested_can : (number other : ℕ) (request : Request) (n m : Node) → m.heap ≡ n.heap →
    m.port ≡ n.port → m.next_token ≡ n.next_token → CanSend n (requested number request) →
    CanSend m (requested other request)
requested_can number other requests.Root n m heap port token can = can
requested_can number other (requests.Call method x) n m heap port token can =
    subst (λ (h : List Stored).
    CanNameAll h m.port m.next_token x.packet.names) (sym heap)
    (subst (λ (p : ℕ).
    CanNameAll n.heap p m.next_token x.packet.names) (sym port)
    (subst (λ (t : ℕ).
    CanNameAll n.heap n.port t x.packet.names) (sym token) can))

-- the top invocation is taken off
pub ended_is : (own later : Own) (found : Option Invocation) →
    MatchOption found ((own.node.stack ≡ []) × (later ≡ own))
    (λ top. (own.node.stack ≡ top ∷ later.node.stack)
    × (later ≡ record own { node = with_stack later.node.stack own.node })) →
    later ≡ record own { node = top_popped own.node }
ended_is own later None h =
    h.1 ∙ λ j. record own { node = with_stack (none j) own.node }
  where
    -- where there is no invocation none is below it
    none : own.node.stack ≡ below own.node.stack
    none = h.0 ∙ ap below (sym h.0)
ended_is own later (Some top) h =
    h.1 ∙ λ j. record own { node = with_stack (sym (ap below h.0) j) own.node }

-- so it is by the definitions of a run
pub popped_is : (n : Node) (r : RunContext) → IsRun n r → popped r ≡ top_popped n
popped_is n r run = λ j. with_stack (below (sym run.stack j)) (run.node j)

-- the first of those below is answered
pub below_is : (a : Answer) (stack : List Invocation) →
    below_answered a stack ≡ first_changed (answered a) stack
below_is a [] = refl
below_is a (i ∷ stack) = refl

-- a core whose node alone changed, and stores no more than that
pub bounded_node : (needs : Needs) (before after : Core) (m : Node) →
    after.part.own ≡ record before.part.own { node = m } →
    length m.heap ≤ length before.part.own.node.heap + needs.objects →
    length m.held ≤ length before.part.own.node.held →
    length m.asked ≤ length before.part.own.node.asked →
    before.streams.room ≤ after.streams.room + needs.waiting →
    after.streams.classes ≡ before.streams.classes → IsBounded needs before after
bounded_node needs before after m own heap held asked waiting classes =
    let h : length after.part.own.node.heap ≡ length m.heap =
    ap (λ (p : Own). length p.node.heap) own in
    let k : length after.part.own.node.held ≡ length m.held =
    ap (λ (p : Own). length p.node.held) own in
    let a : length after.part.own.node.asked ≡ length m.asked =
    ap (λ (p : Own). length p.node.asked) own in
    record {
      waiting = waiting;
      stored = omega arith;
      held = omega arith;
      asked = omega arith;
      classes = classes;
    }

-- a core did what an effect is of each run of its top invocation, and is tidy and within bounds
pub record DidWithin (e : RunContext → Effect) (needs : Needs) (before after : Core) : Type 0 where
  pub done : Did e before after
  pub tidy : IsTidy after.part.own
  pub within : IsBounded needs before after

-- so it did where its node alone changed, to that which the effect leaves
pub node_did : (e : RunContext → Effect) (needs : Needs) (before after : Core) (m : Node) →
    IsTidy before.part.own → KeepsCounts before.part.own.node m →
    ((r : RunContext) → IsRun before.part.own.node r → e r ≡ only m) →
    after.part.own ≡ record before.part.own { node = m } → after.streams ≡ before.streams →
    length m.heap ≤ length before.part.own.node.heap + needs.objects →
    DidWithin e needs before after
node_did e needs before after m tidy kept same own streams heap = record {
  done = λ r run. does_only (doing after) (doing before) m m tidy kept refl own
      (ap (λ (s : Streamed). outbox s) streams) (ap (λ (s : Streamed). s.shown) streams)
      ∙ ap (does (doing before)) (sym (same r run));
  tidy = subst IsTidy (sym own) (tidy_node before.part.own m kept tidy);
  within =
      let held = ap (λ os. length os) kept.held in
      let asked = ap (λ ws. length ws) kept.asked in
      let room = ap (λ (s : Streamed). s.room) streams in
      bounded_node needs before after m own heap (omega arith) (omega arith) (omega arith)
      (ap (λ (s : Streamed). s.classes) streams);
}
