-- Every step of the machine is moves of one node, or a loss.
use Rattle.do_machine.specs.declared.item.Item.TheVariants as items
use Rattle.std.proofs.Common.{◌≡◌, ◌++◌, ℕ, Bool, true, false, cond, not, List, [], ◌∷◌, drop, take}
use Rattle.std.proofs.Common.{refl, sym, ap, ◌∙◌, subst}
use Rattle.std.specs.Prelude.{None, Option, Some, length, nat_lt, option_and_then, option_map}
use Rattle.std.specs.List.{flat_map, insert}
use Rattle.std.proofs.lemmas.{Grind.flat_map-append, List.{take-append-drop, Concat.flat_map-cons}}
use Rattle.do_base.specs.declared.events.event.Event.{Event, TheVariants.{Check, Close, Lose, Run}}
use Rattle.do_base.specs.declared.events.event.Event.TheVariants.{Start, Take, Timeout}
use Rattle.do_class.specs.Class.{Class}
use Rattle.do_machine.specs.declared.{item.Item.Item, node.Node.Node, state.Effect.Effect}
use Rattle.do_machine.specs.{declared.state.{State.State, Stepped.Stepped}, Commit.{moved, showed}}
use Rattle.do_machine.specs.{Context.context, Start.start_effect, State.{change, is_open, node}}
use Rattle.do_machine.specs.{State.{queue, with_queue}, Step.{moved_by, step}, ends.Closing.closing}
use Rattle.do_machine.specs.ends.{Losing.lost, TimeOut.time_out}
use Rattle.do_facts.specs.laws.Entries.{HasQueues}
use Rattle.do_machine.specs.run.Run.{Acting, run_effect}
use Rattle.do_facts.specs.{ByEvents.{IsBy, IsLossOn, IsMoveOf}, Moves.{Happening, Reaches, Rules}}
use Rattle.do_facts.specs.{Moves.with_wire, View.{AreApart, AreMovesIf, View, net_of, part_seen}}
use Rattle.do_facts.{specs.View.wire_seen, proofs.{Bridge.Bridge, EffectReaches.reaches_moved}}
use Rattle.do_facts.proofs.{Paths.reaches_lost, RequeueAsNet.net_requeued, Chains.not_closed}
use Rattle.do_facts.proofs.TakeReaches.{Comes, comes_if, comes_same, comes_take, linked_here}

module _ {P A V : Type 0} (view : View P A) (rules : Rules P A V) (Ok : P → Type 0)
    (bridge : Bridge view rules Ok) (S : State) (queues : HasQueues S) (apart : AreApart S)
    (ok : (port : ℕ) (n : Node) → node S port ≡ Some n → Ok (view.part n)) where
  -- what comes of an event, if it is enabled, is reached in such a way
  abbrev Here : (Happening A V → Type 0) → Option Stepped → Type 0
  Here Way found = Comes view rules Ok bridge S queues apart ok Way found

  -- an event that is not enabled
  same : (Way : Happening A V → Type 0) → Here Way None
  same Way = comes_same view rules Ok bridge S queues apart ok Way

  -- a node moves, where there is an effect
  comes_moved : (port : ℕ) (n : Node) → node S port ≡ Some n → (e : Option Effect) →
      AreMovesIf view rules n e → Here (IsMoveOf port) (moved_by port S e)
  comes_moved port n here None h = same (IsMoveOf port)
  comes_moved port n here (Some e) h =
      reaches_moved view rules Ok bridge port S n here (linked_here view rules Ok bridge S queues
      apart ok port n here)
      (ok port n here) e h

  -- a node moves, where it is there
  comes_by : (port : ℕ) (f : Node → Option Effect) →
      ((n : Node) → Ok (view.part n) → AreMovesIf view rules n (f n)) →
      (found : Option Node) → node S port ≡ found →
      Here (IsMoveOf port) (moved_by port S (option_and_then f found))
  comes_by port f h None here = same (IsMoveOf port)
  comes_by port f h (Some n) here = comes_moved port n here (f n) (h n (ok port n here))

  -- ---- closing and losing

  -- a close
  comes_close : (port peer : ℕ) (found : Option Node) → node S port ≡ found →
      Here (IsMoveOf port) (elim found [
        | None ↦ None
        | Some n ↦ cond (not (is_open n peer)) None (Some (moved port S (closing peer n)))
      ])
  comes_close port peer None here = same (IsMoveOf port)
  comes_close port peer (Some n) here =
      comes_if view rules Ok bridge S queues apart ok (IsMoveOf port) (not (is_open n peer)) _
      (λ q. comes_moved port n here (Some (closing peer n))
      (bridge.close n peer (not_closed (is_open n peer) q) (ok port n here)))

  -- a state after a loss, if there is one, is reached in such a way
  abbrev ComesLost : (Happening A V → Type 0) → Option State → Type 0
  ComesLost Way None = Unit {0}
  ComesLost Way (Some T) = Reaches rules Way (net_of view S) (net_of view T)

  -- a loss that a test may skip
  lost_if : (Way : Happening A V → Type 0) (b : Bool) (T : Option State) →
      (b ≡ false → ComesLost Way T) → ComesLost Way (cond b None T)
  lost_if Way true T h = tt
  lost_if Way false T h = h refl

  -- a loss in a queue
  lost_in : (from to k : ℕ) (n : Node) → node S to ≡ Some n → is_open n from ≡ true →
      (waiting : Option (List Item)) → queue S from to ≡ waiting →
      ComesLost (IsLossOn from to) (elim waiting [
        | None ↦ None
        | Some w ↦ cond (nat_lt (length w) k) None
            (Some (change from (with_queue to (insert w k (items.End []))) S))
      ])
  lost_in from to k n here ends None waits = tt
  lost_in from to k n here ends (Some w) waits =
      lost_if (IsLossOn from to) (nat_lt (length w) k) _ (λ _.
      let net = net_of view S in
      let first = flat_map view.atoms (take k w) in
      let last = flat_map view.atoms (drop k w) in
      subst (λ m. Reaches rules (IsLossOn from to) net m)
      (sym (net_requeued view from to S w (insert w k (items.End [])) waits
      ∙ ap (λ xs. record net { wire = with_wire from to xs net.wire })
      (flat_map-append view.atoms (take k w) (items.End [] ∷ drop k w)
      ∙ ap (λ xs. first ++ xs) (flat_map-cons view.atoms (items.End []) (drop k w))
      ∙ ap (λ xs. first ++ (xs ++ last)) bridge.loss)))
      (reaches_lost rules net from to first last
      (ap (wire_seen view) waits
      ∙ ap (λ xs. flat_map view.atoms xs) (sym (take-append-drop k w))
      ∙ flat_map-append view.atoms (take k w) (drop k w))
      (ap (λ found. rules.opens (part_seen view found) from) here
      ∙ bridge.opens n from ∙ ends)))

  -- a loss on the way to a node
  lost_to : (from to k : ℕ) (found : Option Node) → node S to ≡ found →
      ComesLost (IsLossOn from to) (elim found [
        | None ↦ None
        | Some n ↦ cond (not (is_open n from)) None (elim (queue S from to) [
          | None ↦ None
          | Some w ↦ cond (nat_lt (length w) k) None
              (Some (change from (with_queue to (insert w k (items.End []))) S))
        ])
      ])
  lost_to from to k None here = tt
  lost_to from to k (Some n) here =
      lost_if (IsLossOn from to) (not (is_open n from)) _
      (λ q. lost_in from to k n here (not_closed (is_open n from) q) (queue S from to) refl)

  -- any loss
  comes_lost : (Way : Happening A V → Type 0) (found : Option State) → ComesLost Way found →
      Here Way (option_map (showed []) found)
  comes_lost Way None h = same Way
  comes_lost Way (Some T) h = h

  -- every event
  pub by_step : (table : List Class) (act : Acting) (event : Event) →
      Reaches rules (IsBy event) (net_of view S) (net_of view (step table act S event).state)
  by_step table act (Start port selector values) =
      comes_by port (start_effect table selector values)
      (λ n h. bridge.start table selector values n h) (node S port) refl
  by_step table act (Run port) =
      comes_by port (λ n. run_effect act (context table S n))
      (λ n h. bridge.run act (context table S n) h) (node S port) refl
  by_step table act (Take port from) = comes_take view rules Ok bridge S queues apart ok table
      port from (node S port) refl
  by_step table act (Close port peer) = comes_close port peer (node S port) refl
  by_step table act (Lose from to k) =
      comes_lost (IsLossOn from to) (lost S from to k) (lost_to from to k (node S to) refl)
  by_step table act (Timeout port) =
      comes_by port time_out (λ n h. bridge.gives_up n h) (node S port) refl
  by_step table act Check = same (λ h. ⊥)
