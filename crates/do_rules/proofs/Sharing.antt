-- A node of which nothing is written stays as it is.
use Rattle.std.proofs.Common.{◌≡◌, ℕ, Bool, true, false, cond, List, [], ◌∷◌, refl, ap, sym}
use Rattle.std.specs.Prelude.{◌==◌}
use Rattle.do_behave.specs.declared.act.Write.{Write}
use Rattle.do_machine.specs.{declared.node.{Node.Node, Stored.Stored}, Lists.change_first}
use Rattle.do_machine.specs.run.Changes.{with_slots, with_writes}

-- where no slot is written the heap is as it was
same_heap : (serial : ℕ) (heap : List Stored) →
    change_first (λ x. x.serial == serial) (with_writes []) heap ≡ heap
same_heap serial [] = refl
same_heap serial (x ∷ xs) = go (x.serial == serial) (same_heap serial xs)
  where
    go : (b : Bool) → change_first (λ x. x.serial == serial) (with_writes []) xs ≡ xs →
        cond b (x ∷ xs) (x ∷ change_first (λ x. x.serial == serial) (with_writes []) xs) ≡ x ∷ xs
    go true same = refl
    go false same = ap (λ ys. x ∷ ys) same

-- where no slot is written the node is as it was
pub none_written : (serial : ℕ) (ws : List Write) (n : Node) → ws ≡ [] → n ≡ with_slots serial ws n
none_written serial ws n none =
    rw none (ap (λ heap. record n { heap = heap }) (sym (same_heap serial n.heap)))

pub ruleset none_steps = (none_written)
