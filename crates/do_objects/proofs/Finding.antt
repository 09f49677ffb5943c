-- What is found in a heap that grew, was written to, or lost objects.
use Rattle.std.proofs.Common.{◌≡◌, ◌⊎◌, ◌≤◌, ◌+◌, ◌==◌, ℕ, zero, suc, Bool, cond, inr, arith, List}
use Rattle.std.{proofs.Common.{[], ◌∷◌, ◌||◌, filter, length, refl}, specs.Prelude.{None, Option}}
use Rattle.std.{specs.Prelude.{Some, option_map}, proofs.lemmas.Bool.Decides.nat_tests}
use Rattle.do_behave.specs.declared.act.Write.{Write}
use Rattle.do_packet.specs.{Met.has_object, declared.receipt.Made.Made}
use Rattle.do_machine.specs.{declared.node.{Node.Node, Stored.Stored}, Lists.change_first}
use Rattle.do_machine.specs.{State.{own, stored}, held.Kept.{is_held_up, struck, struck_by}}
use Rattle.do_machine.specs.{held.Refers.heap_objects, run.Changes.with_writes}
use Rattle.do_machine.{specs.run.Fresh.with_serials, proofs.Keeping.chosen}

-- what is there is not absent
pub absent : {X : Type 0} (x : X) (found : Option X) → found ≡ Some x → found ≡ None → ⊥
absent x found h q = cc

-- what is there is one
pub there : {X : Type 0} (found : Option X) (x y : X) → found ≡ Some x → found ≡ Some y → x ≡ y
there found x y h q = cc

-- where objects get the serials from one on, there is none under any other
pub not_new : (k serial : ℕ) (new : List Made) → (serial ≤ k → serial + length new ≤ k) →
    stored k (with_serials serial new) ≡ None
not_new k serial [] h = refl
not_new k serial (m ∷ new) h =
    grind (
      arith,
      nat_tests,
      h,
      not_new k (suc serial) new (λ le. omega (arith, h (omega (arith, le)))),
    )

-- what is stored under a serial, once slots of one object were written
pub written_at : (k serial : ℕ) (ws : List Write) (heap : List Stored) →
    stored k (change_first (λ x. x.serial == serial) (with_writes ws) heap)
    ≡ option_map (λ x. cond (serial == k) (with_writes ws x) x) (stored k heap)
written_at k serial ws [] = refl
written_at k serial ws (x ∷ heap) = grind (arith, written_at k serial ws heap)

-- where a test of serials strikes objects, one of a serial is there or is struck
struck_at : (p : ℕ → Bool) (k : ℕ) (heap : List Stored) →
    stored k (filter (λ x. p x.serial) heap) ≡ cond (p k) (stored k heap) None
struck_at p k [] = grind (arith)
struck_at p k (x ∷ heap) = grind (arith, struck_at p k heap)

-- under each serial few objects have what is among many, or nothing
abbrev pub AreFewer : List Stored → List Stored → Type 0
AreFewer few many = (k : ℕ) → (stored k few ≡ None) ⊎ (stored k few ≡ stored k many)

-- what rounds of striking leave
pub fewer_left : (rounds : ℕ) (entry : ℕ → ℕ → Bool) (n : Node) (heap : List Stored) →
    AreFewer (struck_by rounds entry n heap) heap
fewer_left zero entry n heap = λ k. inr refl
fewer_left (suc rounds) entry n heap =
    let up : ℕ → Bool = λ s. is_held_up entry n s || has_object (heap_objects heap) (own n s) in
    let next = fewer_left rounds entry n (struck entry n heap) in
    chosen entry n (λ left. AreFewer left heap) rounds heap (λ _ k. inr refl)
    (λ _ k. grind (arith, next k, struck_at up k heap))
