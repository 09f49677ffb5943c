-- Each event comes to one of the forms of a step.
use Rattle.do_machine.specs.declared.item.Item.TheVariants as items
use Rattle.std.proofs.Common.{◌≡◌, ℕ, Bool, true, false, cond, not, List, [], ◌∷◌, refl, arith}
use Rattle.std.{proofs.Common.drop, specs.Prelude.{None, Option, Some, length, nat_lt}}
use Rattle.std.specs.{Prelude.{option_and_then, option_map, slice_get, unwrap_or}, List.insert}
use Rattle.std.proofs.lemmas.Bool.Decides.{nat_tests}
use Rattle.do_base.specs.declared.events.event.Event.{Event, TheVariants.{Check, Close, Lose, Run}}
use Rattle.do_base.specs.declared.events.event.Event.TheVariants.{Start, Take, Timeout}
use Rattle.do_class.specs.Class.{Class}
use Rattle.do_machine.specs.declared.{item.Item.Item, node.Node.Node, state.Effect.Effect}
use Rattle.do_machine.specs.{declared.state.{State.State, Stepped.Stepped}, Commit.{moved, showed}}
use Rattle.do_machine.specs.{Commit.skipped, Context.context, Start.start_effect, State.change}
use Rattle.do_machine.specs.{State.{is_open, node, queue, with_queue}, Step.{moved_by, step}}
use Rattle.do_machine.specs.{ends.{Closing.closing, TimeOut.time_out}, run.Run.{Acting, run_effect}}
use Rattle.do_machine.specs.take.Take.{can_serve, can_take, take_effect}
use Rattle.do_facts.specs.steps.IsStep.{Acts, Checks, IsActOf, IsRuleOf, IsStep, Loses, Skips}
use Rattle.do_facts.{specs.steps.IsStep.Takes, proofs.Chains.{first_of, not_closed}}

module _ (table : List Class) (act : Acting) (S : State) where
  -- what comes of an event, if it is enabled, is a step
  abbrev Here : Event → Option Stepped → Type 0
  Here event found = IsStep table act S event (unwrap_or found (skipped S))

  -- an event that a test may skip
  unless : (event : Event) (b : Bool) (found : Option Stepped) →
      (b ≡ false → Here event found) → Here event (cond b None found)
  unless event true found h = Skips refl
  unless event false found h = h refl

  -- ---- a node acts

  -- where there is an effect
  by_effect : (event : Event) (port : ℕ) (n : Node) → IsActOf port event →
      node S port ≡ Some n → (e : Option Effect) →
      ((d : Effect) → e ≡ Some d → IsRuleOf table act S event n d) →
      Here event (moved_by port S e)
  by_effect event port n own here None rule = Skips refl
  by_effect event port n own here (Some e) rule = Acts port n e own here (rule e refl) refl

  -- where there is a node
  by_node : (event : Event) (port : ℕ) → IsActOf port event → (f : Node → Option Effect) →
      ((n : Node) (d : Effect) → f n ≡ Some d → IsRuleOf table act S event n d) →
      (found : Option Node) → node S port ≡ found →
      Here event (moved_by port S (option_and_then f found))
  by_node event port own f rule None here = Skips refl
  by_node event port own f rule (Some n) here =
      by_effect event port n own here (f n) (rule n)

  -- a close
  by_close : (port peer : ℕ) (found : Option Node) → node S port ≡ found →
      Here (Close port peer) (elim found [
        | None ↦ None
        | Some n ↦ cond (not (is_open n peer)) None (Some (moved port S (closing peer n)))
      ])
  by_close port peer None here = Skips refl
  by_close port peer (Some n) here =
      unless (Close port peer) (not (is_open n peer)) (Some (moved port S (closing peer n)))
      (λ q. Acts port n (closing peer n) refl here (not_closed (is_open n peer) q, refl) refl)

  -- ---- a take

  module _ (port from : ℕ) where
    -- the state with these items left in the queue
    abbrev left : List Item → State
    left rest = change from (with_queue port rest) S

    -- what a take of the oldest of these items comes to
    abbrev taken : Node → List Item → Option Stepped
    taken n w = elim (slice_get w 0) [
      | None ↦ None
      | Some x ↦ Some (moved port (left (drop 1 w))
          (take_effect (context table (left (drop 1 w)) n) from x))
    ]

    -- an item that waits
    by_item : (n : Node) → node S port ≡ Some n → is_open n from ≡ true → (w : List Item) →
        queue S from port ≡ Some w → Here (Take port from) (taken n w)
    by_item n here ends [] waits = Skips refl
    by_item n here ends (item ∷ rest) waits =
        Takes port from n item rest (take_effect (context table (left rest) n) from item) refl
        here (ends, refl) waits refl

    -- a queue
    by_queue : (n : Node) → node S port ≡ Some n → is_open n from ≡ true →
        (found : Option (List Item)) → queue S from port ≡ found →
        Here (Take port from) (elim found [ None ↦ None | Some w ↦ taken n w ])
    by_queue n here ends None waits = Skips refl
    by_queue n here ends (Some w) waits = by_item n here ends w waits

    -- a node
    by_take : (found : Option Node) → node S port ≡ found → Here (Take port from) (elim found [
      | None ↦ None
      | Some n ↦ cond (not (can_take from n)) None
          (elim (queue S from port) [ None ↦ None | Some w ↦ taken n w ])
    ])
    by_take None here = Skips refl
    by_take (Some n) here =
        unless (Take port from) (not (can_take from n))
        (elim (queue S from port) [ None ↦ None | Some w ↦ taken n w ])
        (λ q. by_queue n here (first_of (is_open n from) (can_serve n.stack) q)
        (queue S from port) refl)

  -- ---- a loss

  module _ (from to k : ℕ) where
    -- the state once an end stands among these items
    abbrev broken : List Item → State
    broken w = change from (with_queue to (insert w k (items.End []))) S

    -- what a loss among these items comes to
    abbrev losing : List Item → Option State
    losing w = cond (nat_lt (length w) k) None (Some (broken w))

    -- a place among the items
    by_place : (w : List Item) → queue S from to ≡ Some w → (b : Bool) →
        nat_lt (length w) k ≡ b →
        Here (Lose from to k) (option_map (showed []) (cond b None (Some (broken w))))
    by_place w waits true e = Skips refl
    by_place w waits false e =
        Loses from to k w refl waits (grind (arith, nat_tests, e)) refl

    -- a queue
    by_lost : (found : Option (List Item)) → queue S from to ≡ found →
        Here (Lose from to k)
        (option_map (showed []) (elim found [ None ↦ None | Some w ↦ losing w ]))
    by_lost None waits = Skips refl
    by_lost (Some w) waits = by_place w waits (nat_lt (length w) k) refl

    -- an end
    by_end : (b : Bool) → Here (Lose from to k) (option_map (showed [])
        (cond b None (elim (queue S from to) [ None ↦ None | Some w ↦ losing w ])))
    by_end true = Skips refl
    by_end false = by_lost (queue S from to) refl

    -- a node
    by_loss : (found : Option Node) → Here (Lose from to k) (option_map (showed [])
        (elim found [
          | None ↦ None
          | Some n ↦ cond (not (is_open n from)) None
              (elim (queue S from to) [ None ↦ None | Some w ↦ losing w ])
        ]))
    by_loss None = Skips refl
    by_loss (Some n) = by_end (not (is_open n from))

-- every event
pub step_is : (S : State) (table : List Class) (act : Acting) (event : Event) →
    IsStep table act S event (step table act S event)
step_is S table act (Start port selector values) =
    by_node table act S (Start port selector values) port refl
    (start_effect table selector values) (λ n d q. q) (node S port) refl
step_is S table act (Run port) =
    by_node table act S (Run port) port refl (λ n. run_effect act (context table S n))
    (λ n d q. q) (node S port) refl
step_is S table act (Take port from) = by_take table act S port from (node S port) refl
step_is S table act (Close port peer) = by_close table act S port peer (node S port) refl
step_is S table act (Lose from to k) = by_loss table act S from to k (node S to)
step_is S table act (Timeout port) =
    by_node table act S (Timeout port) port refl time_out (λ n d q. q) (node S port) refl
step_is S table act Check = Checks refl refl
