-- What every event keeps of nodes.
use Rattle.std.proofs.Common.{◌≡◌, ◌∙◌, ℕ, Bool, List, ap, refl, subst, sym, false, []}
use Rattle.std.specs.Prelude.{None, Option, Some, unwrap_or}
use Rattle.do_base.specs.declared.events.event.Event.{Event}
use Rattle.do_class.specs.Class.{Class}
use Rattle.do_machine.specs.declared.{node.Node.Node, state.{Effect.Effect, State.State}}
use Rattle.do_machine.specs.{Context.context, State.node, Step.step, held.Leaving.leaving}
use Rattle.do_machine.specs.run.Run.{Acting}
use Rattle.do_facts.specs.laws.Follows.{AllHoldOpen, EachNode, Follows, Grows, HoldsOpen}
use Rattle.do_facts.specs.{laws.Follows.IsNoTimeOut, steps.IsStep.without_oldest}
use Rattle.do_facts.proofs.machine.follows.Follows.{by_leaving, grow_after}
use Rattle.do_facts.proofs.machine.follows.Steps.{is_time_out, no_time_out, rule_steady}
use Rattle.do_facts.proofs.steps.NodeSteps.{Acted, NodeStep, Stands, Took, node_step}
use Rattle.do_facts.proofs.machine.follows.{SteadyTakes.by_take, Steady.steady}

module _ (table : List Class) (act : Acting) (S : State) (event : Event) where
  -- how a node stands to what it was: it grew, and but by a time-out no call became late
  abbrev Stood : Node → Node → Type 0
  Stood n m = Grows n m × (is_time_out event ≡ false → n.late ≡ [] → m.late ≡ [])

  -- where a node was there is one that stands so to it, and else there is none
  abbrev Between : Option Node → Option Node → Type 0
  Between None now = now ≡ None
  Between (Some n) now = (m : Node) × (now ≡ Some m) × Stood n m

  -- an effect, and what the node then leaves
  left_so : (n : Node) (e : Effect) (entry : ℕ → ℕ → Bool) → Stood n e.node →
      Stood n (leaving entry e.node).node
  left_so n e entry h =
      let f = by_leaving entry e.node in
      (grow_after n e.node _ h.0 f.grows, λ t none. f.late (h.1 t none))

  -- a node that stays
  stays : (now found : Option Node) → now ≡ found → Between found now
  stays now None is = is
  stays now (Some n) is = (n, is, ((steady false false n n refl).grows, λ t none. none))

  -- what a node becomes
  becomes : (port : ℕ) (now : Option Node) → NodeStep table act S event port now →
      Between (node S port) now
  becomes port now (Stands is) = stays now (node S port) is
  becomes port now (Acted n e entry own was r is) =
      let s = (rule_steady table act S event n e r).node in
      subst (λ x. Between x now) (sym was) (_, is, left_so n e entry (s.grows, s.late))
  becomes port now (Took from n item behind e entry of was waits r is) =
      let f = by_take (context table (without_oldest S from port behind) n) from item r.0 in
      subst (λ x. Between x now) (sym was) (
        _,
        is,
        left_so n e entry (subst (λ d. Stood n d.node) (sym r.1) (f.grows, λ t. f.late)),
      )

  -- so it is of each node, and so is what follows from it
  each_node : (R : Node → Node → Type 0) → ((n m : Node) → Stood n m → R n m) →
      EachNode R S (step table act S event).state
  each_node R gives =
      let T = (step table act S event).state in
      let now = λ (port : ℕ). becomes port (node T port) (node_step table act S event port) in
      record {
        stands = λ port n here.
            let x = subst (λ found. Between found (node T port)) here (now port) in
            (x.0, x.1, gives n x.0 x.2);
        absent = λ port none. subst (λ found. Between found (node T port)) none (now port);
      }

module _ (table : List Class) (act : Acting) (S : State) where
  -- every event but a time-out
  pub follow_steps : (event : Event) → IsNoTimeOut event →
      EachNode Follows S (step table act S event).state
  follow_steps event on =
      each_node table act S event Follows
      (λ n m h. record { grows = h.0; late = h.1 (no_time_out event on) })

  -- every event
  pub grow_steps : (event : Event) → EachNode Grows S (step table act S event).state
  grow_steps event = each_node table act S event Grows (λ n m h. h.0)

module _ (R : Node → Node → Type 0) (S T : State) (stands : EachNode R S T) where
  -- a node that is there was there before
  pub was : (port : ℕ) (m : Node) → node T port ≡ Some m → (found : Option Node) →
      node S port ≡ found → (n : Node) × (node S port ≡ Some n) × R n m
  was port m h None q = absurd (cc (h, stands.absent port q))
  was port m h (Some n) q =
      let x = stands.stands port n q in
      let same : x.0 ≡ m = ap (λ y. unwrap_or y m) (sym x.1 ∙ h) in
      (n, q, subst (R n) same x.2)

  -- what passes on holds of each node
  pub all_passed : (P : Node → Type 0) → ((n m : Node) → R n m → P n → P m) →
      ((port : ℕ) (n : Node) → node S port ≡ Some n → P n) →
      (port : ℕ) (m : Node) → node T port ≡ Some m → P m
  all_passed P passes held port m h =
      let x = was port m h (node S port) refl in
      passes x.0 m x.2 (held port x.0 x.1)

-- all nodes hold over open ends, if they did
pub all_hold : (S T : State) → EachNode Grows S T → AllHoldOpen S → AllHoldOpen T
all_hold S T grows held =
    record { each = all_passed Grows S T grows HoldsOpen (λ n m g h. g.holding h) held.each }
