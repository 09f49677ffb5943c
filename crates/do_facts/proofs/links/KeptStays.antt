-- What an entry holds up is kept.
use Rattle.std.proofs.Common.{◌≡◌, ◌==◌, ◌||◌, ℕ, Bool, zero, suc, true, false, List, [], ◌∷◌}
use Rattle.std.{proofs.Common.{filter, length, refl, ap, ◌∙◌, arith}, specs.List.list_any}
use Rattle.std.proofs.lemmas.Bool.{eqb-true}
use Rattle.do_packet.specs.Met.{has_object}
use Rattle.do_machine.specs.{declared.node.{Node.Node, Stored.Stored}, State.own}
use Rattle.do_machine.specs.held.Kept.{is_held_up, is_root, kept, stays, struck, struck_by}
use Rattle.do_machine.specs.held.Refers.{heap_objects, stack_objects}
use Rattle.do_facts.specs.links.Moves.{is_there}
use Rattle.std.proofs.lemmas.Bool.Decides.{nat_tests}

-- an object is there still, where each of its serial passes
there_still : (f : Stored → Bool) (s : ℕ) →
    ((x : Stored) → (x.serial == s) ≡ true → f x ≡ true) → (heap : List Stored) →
    is_there heap s ≡ true → is_there (filter f heap) s ≡ true
there_still f s pass [] h = h
there_still f s pass (x ∷ heap) h = grind (arith, h, pass x, there_still f s pass heap)

module _ (entry : ℕ → ℕ → Bool) (n : Node) (s : ℕ) (up : is_held_up entry n s ≡ true) where
  -- what is held up stays
  stays_up : (heap : List Stored) (x : Stored) → (x.serial == s) ≡ true →
      stays entry n heap x ≡ true
  stays_up heap x e =
      ap (λ b. b || has_object (heap_objects heap) (own n x.serial))
      (ap (is_held_up entry n) (eqb-true x.serial s e) ∙ up)

  -- through all rounds of striking
  struck_still : (rounds : ℕ) (heap : List Stored) → is_there heap s ≡ true →
      is_there (struck_by rounds entry n heap) s ≡ true
  struck_still zero heap h = h
  struck_still (suc rounds) heap h =
      go (length (struck entry n heap) == length heap)
      (struck_still rounds (struck entry n heap)
      (there_still (stays entry n heap) s (stays_up heap) heap h))
    where
      go : (b : Bool) → is_there (struck_by rounds entry n (struck entry n heap)) s ≡ true →
          is_there (elim b [
            | true ↦ heap
            | false ↦ struck_by rounds entry n (struck entry n heap)
          ]) s ≡ true
      go true r = h
      go false r = r

  -- so it is kept
  pub kept_still : is_there n.heap s ≡ true → is_there (kept entry n) s ≡ true
  kept_still h = struck_still (length n.heap) n.heap h

-- an entry of a peer over an open end holds an object up
pub entry_holds_up : (entry : ℕ → ℕ → Bool) (n : Node) (m s : ℕ) →
    list_any (λ p. p == m) n.open_to ≡ true → entry m s ≡ true → is_held_up entry n s ≡ true
entry_holds_up entry n m s ends e =
    last (is_root n s || has_object (stack_objects n.stack) (own n s))
    (list_any (λ peer. entry peer s) n.open_to) (among n.open_to ends)
  where
    last : (a b : Bool) → b ≡ true → (a || b) ≡ true
    last true b h = refl
    last false b h = h

    among : (ps : List ℕ) → list_any (λ p. p == m) ps ≡ true →
        list_any (λ peer. entry peer s) ps ≡ true
    among [] h = absurd (cc)
    among (p ∷ ps) h = grind (arith, nat_tests, h, e, among ps)
