-- What small effects keep and send: asks, grants, settled lends and ends.
use Rattle.do_machine.specs.declared.item.Item.TheVariants as items
use Rattle.std.proofs.Common.{◌≡◌, ℕ, true, false, not, List, [], ◌∷◌, refl, ◌∙◌}
use Rattle.std.specs.{Prelude.is_some, List.list_any}
use Rattle.do_base.specs.names.Names.{TokenName}
use Rattle.do_machine.specs.declared.{item.Item.Item, node.{Node.Node, Wanted.Wanted}}
use Rattle.do_machine.specs.{Effect.{each, only, queueing}, State.{is_open, stored}}
use Rattle.do_machine.specs.ends.Closing.{asked_of, closing, parted, serials_of}
use Rattle.do_machine.specs.lend.Asking.{ask_over, asking, granting, same_wanted, settling}
use Rattle.do_machine.specs.lend.Asking.{with_wanted, without_wanted}
use Rattle.do_facts.proofs.Chains.{either, not_closed}
use Rattle.do_facts.proofs.walk.Done.{Done, alone, each_done, queues, then_done}

-- What is to hold of nodes and items, so that it does of these effects: an ask is over, and its
-- lender is told over an open end
pub record Small (G : Node → Type 0) (E : ℕ → Item → Type 0) : Type 0 where
  pub over : (w : Wanted) (n : Node) → G n → G (without_wanted w n)
  pub settles : (w : Wanted) (n : Node) → is_open n w.token.lender ≡ true → G n →
      E w.token.lender (items.Settled w.token.number)

-- settling a lend changes no node
pub settling_node : (w : Wanted) (n : Node) → (settling w n).node ≡ n
settling_node w n =
    either (λ e. e.node ≡ n) (not (is_open n w.token.lender)) (only n) _ (λ _. refl) (λ _. refl)

-- nor does settling several
pub settled_node : (ws : List Wanted) (n : Node) → (each settling ws n).node ≡ n
settled_node [] n = refl
settled_node (w ∷ ws) n = settled_node ws (settling w n).node ∙ settling_node w n

module _ {G : Node → Type 0} {E : ℕ → Item → Type 0} where
  -- an ask is answered, by whether the object is stored
  pub by_granting : (peer serial : ℕ) (token : TokenName) (n : Node) →
      (is_some (stored serial n.heap) ≡ true → E peer (items.Granted serial token)) →
      (is_some (stored serial n.heap) ≡ false → E peer (items.Gone serial token)) → G n →
      Done G E (granting peer serial token n)
  by_granting peer serial token n grants refuses h =
      either (Done G E) (is_some (stored serial n.heap))
      (queueing peer (items.Granted serial token) n) (queueing peer (items.Gone serial token) n)
      (λ e. queues peer (items.Granted serial token) n (grants e) h)
      (λ e. queues peer (items.Gone serial token) n (refuses e) h)

module _ {G : Node → Type 0} {E : ℕ → Item → Type 0} (may : Small G E) where
  -- a lend that is over
  pub by_settling : (w : Wanted) (n : Node) → G n → Done G E (settling w n)
  by_settling w n h =
      either (Done G E) (not (is_open n w.token.lender)) (only n) _ (λ _. alone n h)
      (λ o. queues w.token.lender (items.Settled w.token.number) n
      (may.settles w n (not_closed (is_open n w.token.lender) o) h) h)

  -- an object that is asked for, where it may be over an open end
  pub by_asking : (w : Wanted) (n : Node) →
      (is_open n w.object.node ≡ true →
      G (with_wanted w n) × E w.object.node (items.Ask w.object.serial w.token)) → G n →
      Done G E (asking w n)
  by_asking w n asks h =
      either (Done G E) (not (is_open n w.object.node)) (settling w n) _
      (λ _. by_settling w n h)
      (λ o. either (Done G E) (list_any (same_wanted w) n.asked) (only n) _ (λ _. alone n h)
      (λ _.
      let asked = asks (not_closed (is_open n w.object.node) o) in
      queues w.object.node (items.Ask w.object.serial w.token) (with_wanted w n) asked.1 asked.0))

  -- an ask that is over
  pub by_ask_over : (w : Wanted) (n : Node) → G n → Done G E (ask_over w n)
  by_ask_over w n h = by_settling w (without_wanted w n) (may.over w n h)

  -- an end that is closed, where the node that has parted is so, and the end that is told
  pub by_closing : (peer : ℕ) (n : Node) → G (parted peer n) →
      E peer (items.End (serials_of peer n.held)) → Done G E (closing peer n)
  by_closing peer n h told =
      then_done (queueing peer (items.End (serials_of peer n.held)) (parted peer n))
      (each settling (asked_of peer n))
      (queues peer (items.End (serials_of peer n.held)) (parted peer n) told h)
      (λ m k. each_done settling by_settling (asked_of peer n) m k)
