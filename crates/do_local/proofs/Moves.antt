-- What a node's move comes to, from what its parts come to.
use Rattle.std.proofs.Common.{◌≡◌, ℕ, ◌++◌, Bool, true, List, Option, None, Some, refl, ap, sym}
use Rattle.std.{proofs.Common.◌∙◌, specs.Prelude.{drop, if◌then◌else◌, not, slice_get}}
use Rattle.do_base.specs.declared.events.shown.Shown.{Shown}
use Rattle.do_class.specs.Class.{Class}
use Rattle.do_machine.specs.{Commit.{commit, moved, showed}, Context.context}
use Rattle.do_machine.specs.{State.{change, is_open, node, queue, with_queue}, Step.{close, take}}
use Rattle.do_machine.specs.declared.{item.Item.Item, node.Node.Node, state.Effect.Effect}
use Rattle.do_machine.specs.{declared.state.{State.State, Stepped.Stepped}, ends.Closing.closing}
use Rattle.do_machine.specs.{held.Leaving.leaving, take.Take.{can_take, take_effect}}
use Rattle.do_rules.specs.Judged.{entry_in}

-- an effect is committed, and then what the node leaves
pub moved_is : (port : ℕ) (S between last : State) (e leaves : Effect) (n : Node)
    (shown more whole : List Shown) → n ≡ e.node → shown ≡ e.shown → between ≡ commit port e S
    → leaves ≡ leaving (entry_in between n) n → more ≡ leaves.shown
    → last ≡ commit port leaves between → whole ≡ shown ++ more
    → showed whole last ≡ moved port S e
moved_is port S between last e leaves n shown more whole node first is_between left freed is_last
    both =
    rw (both, is_last, freed, left, is_between, first, node) refl

-- where the end is open, the node closes it
pub close_moves : (port peer : ℕ) (S : State) (n : Node) (e : Effect) (stepped : Stepped)
    → node S port ≡ Some n → is_open n peer ≡ true → e ≡ closing peer n
    → stepped ≡ moved port S e → Some stepped ≡ close S port peer
close_moves port peer S n e stepped found opened closes moves =
    rw (moves, closes, found, opened) refl

-- a state without the oldest of the items that wait from a node for another
abbrev without_oldest : ℕ → ℕ → State → List Item → State
without_oldest port from S waiting = change from (with_queue port (drop 1 waiting)) S

-- the move of a node that takes an item
abbrev taken : List Class → ℕ → ℕ → Node → Item → State → Stepped
taken table port from n item T = moved port T (take_effect (context table T n) from item)

-- what a take does, by the oldest item
abbrev on_item : List Class → ℕ → ℕ → State → Node → List Item → Option Item → Option Stepped
on_item table port from S n waiting o = elim o [
  | None ↦ None
  | Some item ↦ Some (taken table port from n item (without_oldest port from S waiting))
]

-- what a take does, by the items that wait
abbrev on_waiting : List Class → ℕ → ℕ → State → Node → Option (List Item) → Option Stepped
on_waiting table port from S n o = elim o [
  | None ↦ None
  | Some waiting ↦ on_item table port from S n waiting (slice_get waiting 0)
]

-- what a take does, by whether the node can
abbrev on_able : List Class → ℕ → ℕ → State → Node → Bool → Option Stepped
on_able table port from S n able =
    if not able then None else on_waiting table port from S n (queue S from port)

-- what a take does, by the node
abbrev on_node : List Class → ℕ → ℕ → State → Option Node → Option Stepped
on_node table port from S o = elim o [
  | None ↦ None
  | Some n ↦ on_able table port from S n (can_take from n)
]

-- where the node can take, it takes the oldest item
pub take_moves : (table : List Class) (port from : ℕ) (S T : State) (n : Node)
    (waiting : List Item) (item : Item) (e : Effect) (stepped : Stepped)
    → node S port ≡ Some n → can_take from n ≡ true → queue S from port ≡ Some waiting
    → slice_get waiting 0 ≡ Some item → T ≡ change from (with_queue port (drop 1 waiting)) S
    → e ≡ take_effect (context table T n) from item
    → stepped ≡ moved port T e → Some stepped ≡ take table S port from
take_moves table port from S T n waiting item e stepped found can waits oldest is_taken does
    moves =
    let moved_so : stepped ≡ taken table port from n item (without_oldest port from S waiting) =
    moves ∙ ap (moved port T) does ∙ ap (taken table port from n item) is_taken in
    let takes : on_node table port from S (node S port)
    ≡ on_item table port from S n waiting (Some item) =
    ap (on_node table port from S) found ∙ ap (on_able table port from S n) can
    ∙ ap (on_waiting table port from S n) waits ∙ ap (on_item table port from S n waiting) oldest
    in ap Some moved_so ∙ sym takes
