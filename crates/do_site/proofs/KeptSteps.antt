-- What a site keeps true over a step.
use Rattle.std.proofs.Common.{◌≡◌, ℕ, ◌≤◌, Bool, true, false, cond, List, [], ◌∷◌, length, refl, ap}
use Rattle.std.proofs.Common.{sym, subst, ◌∙◌, arith}
use Rattle.std.specs.{Prelude.{filter, not, ◌==◌, ◌||◌}, List.list_any}
use Rattle.do_machine.specs.declared.{node.{Node.Node, Wanted.Wanted}, state.Effect.Effect}
use Rattle.do_machine.specs.{Effect.{each, only}, State.is_open}
use Rattle.do_machine.specs.{ends.Closing.{asked_of, closing, parted}, lend.Asking.settling}
use Rattle.do_network.specs.{Own.Own, Site.site_move}
use Rattle.do_effects.specs.Doing.{Doing, cleared, does, moved}
use Rattle.do_site.proofs.StepsDone.{then_left}

-- whichever of two effects comes, it leaves the node
pub either_node : (n : Node) (b : Bool) (e d : Effect) → e.node ≡ n → d.node ≡ n →
    (cond b e d).node ≡ n
either_node n true e d x y = x
either_node n false e d x y = y

-- to tell that lends are over leaves the node
settled_node : (ws : List Wanted) (n : Node) → (each settling ws n).node ≡ n
settled_node [] n = refl
settled_node (w ∷ ws) n =
    settled_node ws (settling w n).node
    ∙ either_node n (not (is_open n w.token.lender)) (only n) _ refl refl

-- a close leaves the node parted
pub closing_node : (peer : ℕ) (n : Node) → (closing peer n).node ≡ parted peer n
closing_node peer n = settled_node (asked_of peer n) (parted peer n)

-- fewer stand among those that pass
fewer : {X : Type 0} (p : X → Bool) (xs : List X) → length (filter p xs) ≤ length xs
fewer p [] = omega arith
fewer p (x ∷ xs) = go (p x) (fewer p xs)
  where
    go : (b : Bool) → length (filter p xs) ≤ length xs →
        length (cond b (x ∷ filter p xs) (filter p xs)) ≤ length (x ∷ xs)
    go true h = omega (arith, h)
    go false h = omega (arith, h)

-- a node that is parted holds no more
pub parted_held : (peer : ℕ) (n m : Node) (most : ℕ) → m ≡ parted peer n → length n.held ≤ most →
    length m.held ≤ most
parted_held peer n m most e few =
    let less = fewer (λ o. not (o.node == peer)) n.held in
    let same = ap (λ (x : Node). length x.held) e in omega (arith, few, less, same)

-- none of what none passes passes among fewer
none_fewer : {X : Type 0} (p q : X → Bool) (xs : List X) → list_any p xs ≡ false →
    list_any p (filter q xs) ≡ false
none_fewer p q [] h = h
none_fewer p q (x ∷ xs) h = go (p x) (q x) refl h (none_fewer p q xs)
  where
    go : (b c : Bool) → p x ≡ b → (b || list_any p xs) ≡ false →
        (list_any p xs ≡ false → list_any p (filter q xs) ≡ false) →
        list_any p (cond c (x ∷ filter q xs) (filter q xs)) ≡ false
    go true c e h rest = cc
    go false true e h rest = ap (λ b. b || list_any p (filter q xs)) e ∙ rest h
    go false false e h rest = rest h

-- a node with no end towards itself has none once an end closes
pub closing_apart : (peer : ℕ) (n : Node) → is_open n n.port ≡ false →
    is_open (closing peer n).node (closing peer n).node.port ≡ false
closing_apart peer n h =
    subst (λ (m : Node). is_open m m.port ≡ false) (sym (closing_node peer n))
    (none_fewer (λ p. p == n.port) (λ p. not (p == peer)) n.open_to h)

module _ (d mid b c : Doing) (e : Effect) (same : mid ≡ d) (did : b ≡ does mid e)
    (left : c ≡ moved b (cleared b.own)) where
  -- what is done one thing after another, once room was made, is the site's move
  pub made_then_left : c ≡ moved d (site_move d.own e)
  made_then_left =
      then_left mid b c e did left ∙ ap (λ (x : Doing). moved x (site_move x.own e)) same

  -- the node is then this
  own_then : c.own ≡ (site_move d.own e).own
  own_then = ap (λ (x : Doing). x.own) made_then_left

  -- no end leads to itself
  pub apart_then : is_open e.node e.node.port ≡ false → is_open c.own.node c.own.node.port ≡ false
  apart_then h = subst (λ (p : Own). is_open p.node p.node.port ≡ false) (sym own_then) h
