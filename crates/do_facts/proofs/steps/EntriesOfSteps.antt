-- Whether a peer has an entry of a node's object is changed by the steps of these two alone.
use Rattle.do_machine.specs.declared.item.Item.TheVariants as items
use Rattle.std.proofs.Common.{◌≡◌, ◌==◌, ◌&&◌, ℕ, Bool, true, false, List, [], ◌∷◌, refl, sym, ap}
use Rattle.std.proofs.Common.{◌∙◌, subst, drop, take}
use Rattle.std.specs.{Prelude.{Option, Some, ◌||◌}, List.{insert, list_any}}
use Rattle.std.proofs.lemmas.{Bool.eqb-true, List.{take-append-drop, Folds.list_any-append}}
use Rattle.do_base.specs.declared.events.event.Event.{Event, TheVariants.{Check, Lose, Take}}
use Rattle.do_base.specs.names.Names.{ObjectName}
use Rattle.do_packet.specs.Met.{has_object}
use Rattle.do_class.specs.Class.{Class}
use Rattle.do_machine.specs.{run.Run.Acting, declared.{item.Item.Item, node.Node.Node}}
use Rattle.do_machine.specs.declared.state.{State.State, Stepped.Stepped}
use Rattle.do_machine.specs.{Entry.{has_entry, is_holder}, Items.{exported, released}}
use Rattle.do_machine.specs.{Lists.some_passes, State.{change, is_open, node, queue, with_queue}}
use Rattle.do_facts.{specs.laws.Entries.IsNoStepOf, proofs.machine.passing.Lookups.that_changed}
use Rattle.do_facts.specs.steps.IsStep.{Acts, Checks, IsActOf, IsStep, Loses, Skips, Takes}
use Rattle.do_facts.{specs.steps.Queues.touches, proofs.steps.OthersStay.node_stays}
use Rattle.do_facts.proofs.steps.QueuesOfSteps.{queue_stays, requeue_leaves}

-- one more item that does not pass
passes_among_more : (f : Item → Bool) (x : Item) (k : ℕ) (w : List Item) → f x ≡ false →
    list_any f (insert w k x) ≡ list_any f w
passes_among_more f x k w h =
    list_any-append f (take k w) (x ∷ drop k w)
    ∙ ap (λ b. list_any f (take k w) || (b || list_any f (drop k w))) h
    ∙ sym (list_any-append f (take k w) (drop k w))
    ∙ ap (list_any f) (take-append-drop k w)

-- a test of the items of a queue that an end does not pass is as before, once an end is in some
-- queue
test_lost : (f : Item → Bool) (a b k : ℕ) (w : List Item) (S : State) → queue S a b ≡ Some w →
    f (items.End []) ≡ false → (from to : ℕ) →
    some_passes (list_any f)
    (queue (change a (with_queue b (insert w k (items.End []))) S) from to)
    ≡ some_passes (list_any f) (queue S from to)
test_lost f a b k w S waits h from to = go ((from == a) && (to == b)) refl
  where
    here : from ≡ a → to ≡ b → some_passes (list_any f)
        (queue (change a (with_queue b (insert w k (items.End []))) S) from to)
        ≡ some_passes (list_any f) (queue S from to)
    here p q =
        let T = change a (with_queue b (insert w k (items.End []))) S in
        ap (λ x. some_passes (list_any f) (queue T x to)) p
        ∙ ap (λ x. some_passes (list_any f) (queue T a x)) q
        ∙ ap (some_passes (list_any f))
        (that_changed a b (insert w k (items.End [])) w S.stations waits)
        ∙ passes_among_more f (items.End []) k w h
        ∙ ap (some_passes (list_any f)) (sym waits)
        ∙ ap (λ x. some_passes (list_any f) (queue S a x)) (sym q)
        ∙ ap (λ x. some_passes (list_any f) (queue S x to)) (sym p)

    both : (c d : Bool) → (c && d) ≡ true → (c ≡ true) × (d ≡ true)
    both true d e = (refl, e)
    both false d e = absurd (cc)

    go : (c : Bool) → ((from == a) && (to == b)) ≡ c → some_passes (list_any f)
        (queue (change a (with_queue b (insert w k (items.End []))) S) from to)
        ≡ some_passes (list_any f) (queue S from to)
    go false e =
        ap (some_passes (list_any f)) (requeue_leaves a b (insert w k (items.End [])) S from to e)
    go true e =
        let r = both (from == a) (to == b) e in here (eqb-true from a r.0) (eqb-true to b r.1)

-- a take by another node than the reader of a queue does not touch it
take_elsewhere : (port peer from to : ℕ) → IsNoStepOf to (Take port peer) →
    touches (Take port peer) from to ≡ false
take_elsewhere port peer from to h = second (from == peer) (to == port) h
  where
    second : (a b : Bool) → b ≡ false → (a && b) ≡ false
    second true b e = e
    second false b e = refl

-- an act touches no queue
act_elsewhere : (event : Event) (port from to : ℕ) → IsActOf port event →
    touches event from to ≡ false
act_elsewhere (Take port peer) p from to h = absurd h
act_elsewhere (Lose a b k) p from to h = absurd h
act_elsewhere Check p from to h = absurd h
act_elsewhere _ p from to h = refl

-- a test of items that an end does not pass finds as much in a queue between nodes that the event
-- is no step of
test_stays : (f : Item → Bool) → f (items.End []) ≡ false → {table : List Class} {act : Acting}
    (S : State) (event : Event) (s : Stepped) → IsStep table act S event s → (from to : ℕ) →
    IsNoStepOf from event →
    IsNoStepOf to event →
    some_passes (list_any f) (queue s.state from to)
    ≡ some_passes (list_any f) (queue S from to)
test_stays f ends S event s (Skips e) from to h k =
    ap (λ x. some_passes (list_any f) (queue x.state from to)) e
test_stays f ends {table} {act} S event s (Acts port n d own here rule e) from to h k =
    ap (some_passes (list_any f))
    (queue_stays {table = table} {act = act} S event s (Acts port n d own here rule e) from to h
    (act_elsewhere event port from to own))
test_stays f ends {table} {act} S event s (Takes port peer n item rest d is here rule waits e) from
    to h k =
    ap (some_passes (list_any f))
    (queue_stays {table = table} {act = act} S event s
    (Takes port peer n item rest d is here rule waits e) from to h
    (ap (λ x. touches x from to) is
    ∙ take_elsewhere port peer from to (subst (IsNoStepOf to) is k)))
test_stays f ends S event s (Loses a b j waiting is waits few e) from to h k =
    ap (λ x. some_passes (list_any f) (queue x.state from to)) e
    ∙ test_lost f a b j waiting S waits ends from to
test_stays f ends S event s (Checks is e) from to h k =
    ap (λ x. some_passes (list_any f) (queue x.state from to)) e

-- a step of a third node, and a loss, changes no entry
pub entry_stays : {table : List Class} {act : Acting} (S : State)
    (event : Event) (s : Stepped) → IsStep table act S event s → (peer : ℕ)
    (o : ObjectName) → IsNoStepOf o.node event → IsNoStepOf peer event →
    has_entry s.state peer o ≡ has_entry S peer o
entry_stays S event s is peer o h k =
    let T = s.state in
    let out : Item → Bool = λ item. has_object (exported o.node peer item) o in
    let back : Item → Bool = λ item. has_object (released peer o.node item) o in
    let away = some_passes (list_any out) in
    let home = some_passes (list_any back) in
    let f : Option Node → Option Node → Bool → Bool → Bool = λ x y b c.
    some_passes (λ n. is_open n peer) x && ((some_passes (is_holder o) y || b) || c) in
    ap (λ x. f x (node T peer) (away (queue T o.node peer)) (home (queue T peer o.node)))
    (node_stays S event s is o.node h)
    ∙ ap (λ x. f (node S o.node) x (away (queue T o.node peer)) (home (queue T peer o.node)))
    (node_stays S event s is peer k)
    ∙ ap (λ b. f (node S o.node) (node S peer) b (home (queue T peer o.node)))
    (test_stays out refl S event s is o.node peer h k)
    ∙ ap (λ b. f (node S o.node) (node S peer) (away (queue S o.node peer)) b)
    (test_stays back refl S event s is peer o.node k h)
