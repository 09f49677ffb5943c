-- A step takes one item out of one queue at most, or puts one end in, and changes else the ends of
-- its node's queues.
use Rattle.do_machine.specs.declared.item.Item.TheVariants as items
use Rattle.std.proofs.Common.{◌≡◌, ◌==◌, ◌&&◌, ◌++◌, ℕ, Bool, true, false, List, [], ◌∷◌, refl, sym}
use Rattle.std.proofs.Common.{ap, ◌∙◌, subst, append-nil, append_assoc}
use Rattle.std.specs.{Prelude.{Some, cond, option_and_then, option_map}, List.insert}
use Rattle.std.proofs.lemmas.Bool.{eqb-true}
use Rattle.do_base.specs.declared.events.event.Event.{Event, TheVariants.{Lose, Take}}
use Rattle.do_class.specs.Class.{Class}
use Rattle.do_machine.specs.{run.Run.Acting, declared.{item.Item.Item, state.Effect.Effect}}
use Rattle.do_machine.specs.declared.state.{State.State, Stepped.Stepped}
use Rattle.do_machine.specs.{Commit.{commit, items_to, moved, skipped}, Context.around}
use Rattle.do_machine.specs.{State.{change, queue, queue_to, with_queue}, held.Leaving.leaving}
use Rattle.do_facts.{specs.laws.Entries.IsNoStepOf, proofs.machine.Frame.elsewhere}
use Rattle.do_facts.proofs.machine.{Queues.{grows_behind, queue_with}, passing.Lookups.that_changed}
use Rattle.do_facts.specs.steps.IsStep.{Acts, Checks, IsStep, Loses, Skips, Takes}
use Rattle.do_facts.specs.steps.Queues.{IsLost, IsTaken, StandBehind, touches}
use Rattle.do_facts.proofs.steps.OthersStay.{apart_act}

-- ---- queues of others

-- a move changes no queue from another node
pub move_leaves_queues : (port from to : ℕ) (e : Effect) (S : State) → (from == port) ≡ false →
    queue (moved port S e).state from to ≡ queue S from to
move_leaves_queues port from to e S h =
    let U = commit port e S in
    let d = leaving (around U e.node).entry e.node in
    ap (λ found. option_and_then (λ s. queue_to to s) found) (elsewhere port from d U.stations h)
    ∙ ap (λ found. option_and_then (λ s. queue_to to s) found)
    (elsewhere port from e S.stations h)

-- other items in one queue change no other queue
pub requeue_leaves : (a b : ℕ) (items : List Item) (S : State) (from to : ℕ) →
    ((from == a) && (to == b)) ≡ false →
    queue (change a (with_queue b items) S) from to ≡ queue S from to
requeue_leaves a b items S from to h =
    queue_with a b items from to S.stations
    ∙ ap (λ t. cond t (option_map (λ w. items) (queue S from to)) (queue S from to)) h

-- a queue of another node, which the event does not touch, stays
pub queue_stays : {table : List Class} {act : Acting} (S : State)
    (event : Event) (s : Stepped) → IsStep table act S event s →
    (from to : ℕ) → IsNoStepOf from event → touches event from to ≡ false →
    queue s.state from to ≡ queue S from to
queue_stays S event s (Skips e) from to h t = ap (λ x. queue x.state from to) e
queue_stays S event s (Acts port n d own here rule e) from to h t =
    ap (λ x. queue x.state from to) e
    ∙ move_leaves_queues port from to d S (apart_act event port from own h)
queue_stays S event s (Takes port peer n item rest d is here rule waits e) from to h t =
    ap (λ x. queue x.state from to) e
    ∙ move_leaves_queues port from to d (change peer (with_queue port rest) S)
    (subst (IsNoStepOf from) is h)
    ∙ requeue_leaves peer port rest S from to (ap (λ x. touches x from to) (sym is) ∙ t)
queue_stays S event s (Loses peer port k waiting is waits few e) from to h t =
    ap (λ x. queue x.state from to) e
    ∙ requeue_leaves peer port (insert waiting k (items.End [])) S from to
    (ap (λ x. touches x from to) (sym is) ∙ t)
queue_stays S event s (Checks is e) from to h t = ap (λ x. queue x.state from to) e

-- ---- queues that grow

-- nothing is behind them yet
none_behind : (T : State) (from to : ℕ) (waiting : List Item) →
    queue T from to ≡ Some waiting → StandBehind T from to waiting
none_behind T from to waiting h = ([], h ∙ ap Some (sym (append-nil waiting)))

-- a move puts items behind those that wait, if any
pub move_grows : (port from to : ℕ) (e : Effect) (S : State) (waiting : List Item) →
    queue S from to ≡ Some waiting → StandBehind (moved port S e).state from to waiting
move_grows port from to e S waiting h = go (from == port) refl
  where
    go : (b : Bool) → (from == port) ≡ b → StandBehind (moved port S e).state from to waiting
    go false k =
        none_behind (moved port S e).state from to waiting
        (move_leaves_queues port from to e S k ∙ h)
    go true k =
        let U = commit port e S in
        let d = leaving (around U e.node).entry e.node in
        let same : from ≡ port = eqb-true from port k in
        let first = items_to to e.sent in
        let then = items_to to d.sent in (
          first ++ then,
          ap (λ p. queue (commit port d U) p to) same
              ∙ grows_behind port to d U.stations (waiting ++ first)
              (grows_behind port to e S.stations waiting
              (ap (λ p. queue S p to) (sym same) ∙ h))
              ∙ ap Some (append_assoc waiting first then),
        )

-- what waits in a queue that the event does not touch waits there still, before what is sent
pub queue_grows : {table : List Class} {act : Acting} (S : State)
    (event : Event) (s : Stepped) → IsStep table act S event s →
    (from to : ℕ) (waiting : List Item) → touches event from to ≡ false →
    queue S from to ≡ Some waiting → StandBehind s.state from to waiting
queue_grows S event s (Skips e) from to w t h =
    none_behind s.state from to w (ap (λ x. queue x.state from to) e ∙ h)
queue_grows S event s (Acts port n d own here rule e) from to w t h =
    subst (λ x. StandBehind x.state from to w) (sym e) (move_grows port from to d S w h)
queue_grows S event s (Takes port peer n item rest d is here rule waits e) from to w t h =
    let U = change peer (with_queue port rest) S in
    subst (λ x. StandBehind x.state from to w) (sym e)
    (move_grows port from to d U w
    (requeue_leaves peer port rest S from to (ap (λ x. touches x from to) (sym is) ∙ t) ∙ h))
queue_grows S event s (Loses peer port k waiting is waits few e) from to w t h =
    none_behind s.state from to w
    (ap (λ x. queue x.state from to) e
    ∙ requeue_leaves peer port (insert waiting k (items.End [])) S from to
    (ap (λ x. touches x from to) (sym is) ∙ t)
    ∙ h)
queue_grows S event s (Checks is e) from to w t h =
    none_behind s.state from to w (ap (λ x. queue x.state from to) e ∙ h)

-- ---- the queue that is touched

-- a step that is enabled is not skipped
not_skipped : (S : State) (s : Stepped) → s ≡ skipped S → s.outcome.enabled ≡ true → ⊥
not_skipped S s e on = no (sym on ∙ ap (λ x. x.outcome.enabled) e)
  where
    no : true ≡ false → ⊥
    no q = cc

-- a take that is enabled takes the oldest item
pub takes_oldest : {table : List Class} {act : Acting} (S : State) (port from : ℕ)
    (s : Stepped) → IsStep table act S (Take port from) s →
    s.outcome.enabled ≡ true → (from == port) ≡ false → IsTaken S s.state from port
takes_oldest S port from s (Skips e) on apart = absurd (not_skipped S s e on)
takes_oldest S port from s (Acts p n d own here rule e) on apart = absurd own
takes_oldest S port from s (Takes p peer n item rest d is here rule waits e) on apart =
    let same : port ≡ p = cc (is) in
    let other : from ≡ peer = cc (is) in
    let T = (moved p (change peer (with_queue p rest) S) d).state in
    subst (λ q. IsTaken S s.state from q) (sym same)
    (subst (λ q. IsTaken S s.state q p) (sym other) (
      item,
      rest,
      waits,
      ap (λ x. queue x.state peer p) e
          ∙ move_leaves_queues p peer p d (change peer (with_queue p rest) S)
          (ap (λ q. q == p) (sym other) ∙ ap (λ q. from == q) (sym same) ∙ apart)
          ∙ that_changed peer p rest (item ∷ rest) S.stations waits,
    ))
takes_oldest S port from s (Loses a b k waiting is waits few e) on apart = absurd (cc (is))
takes_oldest S port from s (Checks is e) on apart = absurd (cc (is))

-- a loss that is enabled puts one end into the queue
pub loses_one : {table : List Class} {act : Acting} (S : State) (from to k : ℕ)
    (s : Stepped) → IsStep table act S (Lose from to k) s →
    s.outcome.enabled ≡ true → IsLost S s.state from to k
loses_one S from to k s (Skips e) on = absurd (not_skipped S s e on)
loses_one S from to k s (Acts p n d own here rule e) on = absurd own
loses_one S from to k s (Takes p peer n item rest d is here rule waits e) on = absurd (cc (is))
loses_one S from to k s (Loses a b j waiting is waits few e) on =
    let first : from ≡ a = cc (is) in
    let second : to ≡ b = cc (is) in
    let third : k ≡ j = cc (is) in
    subst (λ q. IsLost S s.state q to k) (sym first)
    (subst (λ q. IsLost S s.state a q k) (sym second)
    (subst (λ q. IsLost S s.state a b q) (sym third) (
      waiting,
      waits,
      few,
      ap (λ x. queue x.state a b) e
          ∙ that_changed a b (insert waiting j (items.End [])) waiting S.stations waits,
    )))
loses_one S from to k s (Checks is e) on = absurd (cc (is))
