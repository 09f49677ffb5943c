-- An event that closes nothing and loses nothing leaves all ends open.
use Rattle.std.proofs.Common.{◌≡◌, ◌==◌, ◌&&◌, ◌||◌, ◌∙◌, ℕ, Bool, true, false, cond, not, List, []}
use Rattle.std.proofs.Common.{◌∷◌, refl, sym, ap, drop}
use Rattle.std.specs.Prelude.{None, Option, Some, option_and_then, slice_get, unwrap_or}
use Rattle.std.{specs.List.list_any, proofs.lemmas.Bool.eqb-true}
use Rattle.do_base.specs.declared.events.event.Event.{Event}
use Rattle.do_base.specs.declared.events.event.Event.TheVariants.{Check, Run, Start, Take, Timeout}
use Rattle.do_class.specs.Class.{Class}
use Rattle.do_machine.specs.declared.{item.Item.Item, node.Node.Node, state.Effect.Effect}
use Rattle.do_machine.specs.{declared.state.{State.State, Stepped.Stepped}, Commit.{moved, skipped}}
use Rattle.do_machine.specs.{Context.context, Items.exported, Start.start_effect}
use Rattle.do_machine.specs.{State.{change, node, queue, with_queue}, Step.{moved_by, step}}
use Rattle.do_machine.specs.{ends.TimeOut.time_out, run.Run.{Acting, run_effect}}
use Rattle.do_machine.specs.take.Take.{can_take, holding, take_effect}
use Rattle.do_facts.proofs.machine.follows.{States.requeued, Steady.is_end}
use Rattle.do_facts.proofs.machine.passing.{Lookups.that_changed, Quiet.{Quiet, arrival_quiet}}
use Rattle.do_facts.proofs.{machine.passing.Quiet.rule_quiet, steps.QueuesOfSteps.requeue_leaves}
use Rattle.do_quiet.{specs.Quiet.IsNoBreak, proofs.CalmMoves.{Calm, Undisturbed, move_undisturbed}}

module _ (S : State) (before : Undisturbed S) where
  -- what comes of an event, if it is enabled, leaves all ends open
  abbrev Here : Option Stepped → Type 0
  Here found = Undisturbed (unwrap_or found (skipped S)).state

  -- a calm effect, where there is one
  by_effect : (port : ℕ) (n : Node) → node S port ≡ Some n → (e : Option Effect) →
      ((d : Effect) → e ≡ Some d → Calm n d) → Here (moved_by port S e)
  by_effect port n here None calm = before
  by_effect port n here (Some e) calm = move_undisturbed port n e S here (calm e refl) before

  -- where there is a node
  by_node : (port : ℕ) (f : Node → Option Effect) →
      ((n : Node) (d : Effect) → f n ≡ Some d → Quiet n d) →
      (found : Option Node) → node S port ≡ found →
      Here (moved_by port S (option_and_then f found))
  by_node port f quiet None here = before
  by_node port f quiet (Some n) here =
      by_effect port n here (f n)
      (λ d q. let r = quiet n d q in record { ends = r.ends; sent = r.sent })

  module _ (table : List Class) (port from : ℕ) where
    -- the state with these items left in the queue
    abbrev left_with : List Item → State
    left_with rest = change from (with_queue port rest) S

    -- what a take of the oldest of these items comes to
    abbrev taken : Node → List Item → Option Stepped
    taken n w = elim (slice_get w 0) [
      | None ↦ None
      | Some x ↦ Some (moved port (left_with (drop 1 w))
          (take_effect (context table (left_with (drop 1 w)) n) from x))
    ]

    -- the first and the rest of items without an end
    first_none : (a b : Bool) → (a || b) ≡ false → a ≡ false
    first_none true b h = h
    first_none false b h = refl

    rest_none : (a b : Bool) → (a || b) ≡ false → b ≡ false
    rest_none true b h = absurd (cc)
    rest_none false b h = h

    -- with an item less, all ends are open and none is on its way
    less_undisturbed : (item : Item) (rest : List Item) → queue S from port ≡ Some (item ∷ rest) →
        Undisturbed (left_with rest)
    less_undisturbed item rest waits = record {
      reach = record {
        reach = λ a b x y p q.
            before.reach.reach a b x y (sym (requeued from port a rest S.stations) ∙ p)
            (sym (requeued from port b rest S.stations) ∙ q);
      };
      none = λ a b found h. go a b found h ((a == from) && (b == port)) refl;
    }
      where
        both : (c e : Bool) → (c && e) ≡ true → (c ≡ true) × (e ≡ true)
        both true e h = (refl, h)
        both false e h = absurd (cc)

        go : (a b : ℕ) (found : List Item) → queue (left_with rest) a b ≡ Some found → (c : Bool) →
            ((a == from) && (b == port)) ≡ c → list_any is_end found ≡ false
        go a b found h false k =
            before.none a b found (sym (requeue_leaves from port rest S a b k) ∙ h)
        go a b found h true k =
            let r = both (a == from) (b == port) k in
            let changed = that_changed from port rest (item ∷ rest) S.stations waits in
            let here = ap (λ p. queue (left_with rest) p port) (sym (eqb-true a from r.0))
            ∙ ap (queue (left_with rest) a) (sym (eqb-true b port r.1)) ∙ h
            in
            ap (λ x. list_any is_end (unwrap_or x found)) (sym here ∙ changed)
            ∙ rest_none (is_end item) (list_any is_end rest)
            (before.none from port (item ∷ rest) waits)

    -- an item that waits is no end
    by_item : (n : Node) → node S port ≡ Some n → (w : List Item) →
        queue S from port ≡ Some w → Here (taken n w)
    by_item n here [] waits = before
    by_item n here (item ∷ rest) waits =
        let c = context table (left_with rest) n in
        let m = holding (exported from n.port item) n in
        let r = arrival_quiet c from item m
        (first_none (is_end item) (list_any is_end rest)
        (before.none from port (item ∷ rest) waits))
        in
        move_undisturbed port n (take_effect c from item) (left_with rest)
        (requeued from port port rest S.stations ∙ here)
        (record { ends = r.ends; sent = r.sent }) (less_undisturbed item rest waits)

    -- a queue
    by_queue : (n : Node) → node S port ≡ Some n → (found : Option (List Item)) →
        queue S from port ≡ found → Here (elim found [ None ↦ None | Some w ↦ taken n w ])
    by_queue n here None waits = before
    by_queue n here (Some w) waits = by_item n here w waits

    -- an end of the node
    by_end : (n : Node) → node S port ≡ Some n → (b : Bool) → Here (cond b None
        (elim (queue S from port) [ None ↦ None | Some w ↦ taken n w ]))
    by_end n here true = before
    by_end n here false = by_queue n here (queue S from port) refl

    -- a node
    by_take : (found : Option Node) → node S port ≡ found → Here (elim found [
      | None ↦ None
      | Some n ↦ cond (not (can_take from n)) None
          (elim (queue S from port) [ None ↦ None | Some w ↦ taken n w ])
    ])
    by_take None here = before
    by_take (Some n) here = by_end n here (not (can_take from n))

  -- an event that closes nothing and loses nothing
  pub step_undisturbed : (table : List Class) (act : Acting) (event : Event) → IsNoBreak event →
      Undisturbed (step table act S event).state
  step_undisturbed table act (Start port selector values) h =
      by_node port (start_effect table selector values)
      (λ n d q. rule_quiet table act S (Start port selector values) n d q refl)
      (node S port) refl
  step_undisturbed table act (Run port) h =
      by_node port (λ n. run_effect act (context table S n))
      (λ n d q. rule_quiet table act S (Run port) n d q refl) (node S port) refl
  step_undisturbed table act (Take port from) h = by_take table port from (node S port) refl
  step_undisturbed table act (Timeout port) h =
      by_node port time_out (λ n d q. rule_quiet table act S (Timeout port) n d q refl)
      (node S port) refl
  step_undisturbed table act Check h = before
  step_undisturbed table act _ h = absurd h
