-- What is stored once slots are written, objects are made, or some are freed.
use Rattle.std.proofs.Common.{◌≡◌, ◌==◌, ◌++◌, ◌+◌, ◌<◌, ℕ, Bool, zero, suc, true, false, List, []}
use Rattle.std.proofs.Common.{◌∷◌, filter, length, refl, ap, ◌∙◌, sym, arith}
use Rattle.std.specs.{Prelude.{None, Option, Some, is_some}, Option.option_or}
use Rattle.std.proofs.lemmas.{Bool.Decides.nat_tests, List.Folds.find-append}
use Rattle.do_behave.specs.declared.act.Write.{Write}
use Rattle.do_packet.specs.declared.receipt.Made.{Made}
use Rattle.do_machine.specs.{declared.node.{Node.Node, Stored.Stored}, Lists.change_first}
use Rattle.do_machine.specs.{State.stored, held.Kept.{kept, stays, struck, struck_by}}
use Rattle.do_machine.specs.run.{Changes.with_writes, Fresh.with_serials}
use Rattle.do_facts.specs.links.{Links.Links, Moves.{IsGrown, is_there, stores}}

-- the same serials are there, once slots of one object are written
written_there : (k serial : ℕ) (ws : List Write) (heap : List Stored) →
    is_there (change_first (λ x. x.serial == serial) (with_writes ws) heap) k ≡ is_there heap k
written_there k serial ws [] = refl
written_there k serial ws (x ∷ heap) = grind (arith, nat_tests, written_there k serial ws heap)

-- new objects have serials below the next
pub new_below : (k serial : ℕ) (new : List Made) → is_there (with_serials serial new) k ≡ true →
    k < serial + length new
new_below k serial [] h = absurd (cc)
new_below k serial (m ∷ new) h = grind (arith, nat_tests, h, new_below k (suc serial) new)

module _ (p : Links) (given : (s : ℕ) → stores p s ≡ true → s < p.serial) where
  -- a heap in which slots were written
  pub grown_written : (serial : ℕ) (ws : List Write) →
      IsGrown p (change_first (λ x. x.serial == serial) (with_writes ws) p.heap) p.serial
  grown_written serial ws = record {
    kept = λ s h. written_there s serial ws p.heap ∙ h;
    given = λ s h. given s (sym (written_there s serial ws p.heap) ∙ h);
    next = omega arith;
  }

  -- what is there among those stored and the new is old or new
  among_both : (k : ℕ) (new : List Made) (found : Option Stored) → stored k p.heap ≡ found →
      is_some (option_or found (stored k (with_serials p.serial new))) ≡ true →
      k < p.serial + length new
  among_both k new None e h = new_below k p.serial new h
  among_both k new (Some x) e h = omega (arith, given k (ap is_some e))

  -- what was there is there among more
  still_among : (found more : Option Stored) → is_some found ≡ true →
      is_some (option_or found more) ≡ true
  still_among None more h = absurd (cc)
  still_among (Some x) more h = refl

  -- a heap with new objects
  pub grown_made : (new : List Made) →
      IsGrown p (p.heap ++ with_serials p.serial new) (p.serial + length new)
  grown_made new =
      let both = λ (k : ℕ). find-append (λ (x : Stored). x.serial == k) p.heap
      (with_serials p.serial new)
      in
      record {
        kept = λ s h. ap is_some (both s)
            ∙ still_among (stored s p.heap) (stored s (with_serials p.serial new)) h;
        given = λ s h.
            among_both s new (stored s p.heap) refl (sym (ap is_some (both s)) ∙ h);
        next = omega arith;
      }

-- ---- freeing

-- what is there in a part is there
there_before : (f : Stored → Bool) (k : ℕ) (heap : List Stored) →
    is_there (filter f heap) k ≡ true → is_there heap k ≡ true
there_before f k [] h = h
there_before f k (x ∷ heap) h = grind (arith, nat_tests, h, there_before f k heap)

-- what rounds of striking leave was there
struck_before : (rounds : ℕ) (entry : ℕ → ℕ → Bool) (n : Node) (heap : List Stored) (k : ℕ) →
    is_there (struck_by rounds entry n heap) k ≡ true → is_there heap k ≡ true
struck_before zero entry n heap k h = h
struck_before (suc rounds) entry n heap k h =
    go (length (struck entry n heap) == length heap)
    (struck_before rounds entry n (struck entry n heap) k) h
  where
    go : (b : Bool) →
        (is_there (struck_by rounds entry n (struck entry n heap)) k ≡ true →
        is_there (struck entry n heap) k ≡ true) →
        is_there (elim b [
          | true ↦ heap
          | false ↦ struck_by rounds entry n (struck entry n heap)
        ]) k ≡ true → is_there heap k ≡ true
    go true r e = e
    go false r e = there_before (stays entry n heap) k heap (r e)

-- what a node keeps it stored
pub kept_before : (entry : ℕ → ℕ → Bool) (n : Node) (k : ℕ) → is_there (kept entry n) k ≡ true →
    is_there n.heap k ≡ true
kept_before entry n k h = struck_before (length n.heap) entry n n.heap k h
