-- Effects of which something holds: of their node, and of each item that they send.
use Rattle.std.proofs.Common.{◌≡◌, ℕ, List, [], ◌∷◌, inl, inr, refl}
use Rattle.std.specs.{Prelude.{Option, Some}, List.AllByRecursion}
use Rattle.do_base.specs.declared.events.shown.Shown.{Shown}
use Rattle.do_machine.specs.declared.{item.Item.Item, node.Node.Node, state.Effect.Effect}
use Rattle.do_machine.specs.{Lists.IsIn, Effect.{each, only, queueing, showing, ◌>>=◌}}
use Rattle.do_facts.proofs.{EachOfLists.each_joined, walk.Possible.{IfAny, there}}

-- this holds of the node of an effect, and that of each item that it sends, with the peer
pub record Done (G : Node → Type 0) (E : ℕ → Item → Type 0) (e : Effect) : Type 0 where
  pub node : G e.node
  pub sent : AllByRecursion (λ p. E p.to p.item) e.sent

-- so it is with an effect, where there is one
abbrev pub DoneIf : (Node → Type 0) → (ℕ → Item → Type 0) → Option Effect → Type 0
DoneIf G E e = IfAny (Done G E) e

module _ {G : Node → Type 0} {E : ℕ → Item → Type 0} where
  -- the node alone changes
  pub alone : (n : Node) → G n → Done G E (only n)
  alone n h = record { node = h; sent = tt }

  -- something is shown
  pub shows : (s : Shown) (n : Node) → G n → Done G E (showing s n)
  shows s n h = record { node = h; sent = tt }

  -- an item is queued
  pub queues : (to : ℕ) (item : Item) (n : Node) → E to item → G n → Done G E (queueing to item n)
  queues to item n i h = record { node = h; sent = (i, tt) }

  -- one effect after another
  pub then_done : (e : Effect) (next : Node → Effect) → Done G E e →
      ((n : Node) → G n → Done G E (next n)) → Done G E (e >>= next)
  then_done e next h k =
      let d = k e.node h.node in
      record {
        node = d.node;
        sent = each_joined (λ p. E p.to p.item) e.sent (next e.node).sent h.sent d.sent;
      }

  -- an effect for each element of a list, each of which is in it
  pub each_within : {X : Type 0} (f : X → Node → Effect) (xs : List X) →
      ((x : X) → IsIn xs x → (n : Node) → G n → Done G E (f x n)) → (n : Node) → G n →
      Done G E (each f xs n)
  each_within f [] k n h = alone n h
  each_within f (x ∷ xs) k n h =
      then_done (f x n) (each f xs) (k x (inl refl) n h)
      (λ m g. each_within f xs (λ y i. k y (inr i)) m g)

  -- an effect for each element of any list
  pub each_done : {X : Type 0} (f : X → Node → Effect) →
      ((x : X) (n : Node) → G n → Done G E (f x n)) → (xs : List X) (n : Node) → G n →
      Done G E (each f xs n)
  each_done f k xs n h = each_within f xs (λ x i. k x) n h

  -- the effect that there is
  pub done_there : (found : Option Effect) (e : Effect) → DoneIf G E found → found ≡ Some e →
      Done G E e
  done_there = there (Done G E)
