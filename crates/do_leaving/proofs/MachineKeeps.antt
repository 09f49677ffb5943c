-- What sweeping leaves is what the machine keeps.
use Rattle.std.proofs.Common.{◌≡◌, ℕ, zero, suc, ◌≤◌, Bool, true, false, List as Listed, [], ◌∷◌}
use Rattle.std.proofs.Common.{length, refl, sym, ap, ◌∙◌, arith, inl, inr, Contains}
use Rattle.std.specs.{Prelude.◌==◌, List.list_any}
use Rattle.std.proofs.lemmas.Bool.{eq-eqb, eqb-true, or_cases, or_left, or_right}
use Rattle.std.proofs.lemmas.List.{Folds.list_any-append, Sums.sum_by-cons}
use Rattle.do_base.specs.names.Names.{ObjectName}
use Rattle.do_packet.specs.Met.{has_object, same_object}
use Rattle.do_machine.specs.{declared.node.{Node.Node, Stored.Stored as Object}, Lists.IsIn}
use Rattle.do_machine.specs.held.Kept.{kept, stays, struck, struck_by}
use Rattle.do_machine.specs.held.Refers.{heap_objects, objects_in}
use Rattle.do_store.specs.{Listing.Rising, Names.{Stored, named_in, values_name}}
use Rattle.do_leaving.proofs.RisingLists.{rising-filter}

-- ---- members

-- an element at a place is among all
pub contains_in : {X : Type 0} (xs : Listed X) (x : X) → Contains xs x → IsIn xs x
contains_in [] x there = absurd (omega (arith, there.1))
contains_in (y ∷ ys) x (zero, h, e) = inl e
contains_in (y ∷ ys) x (suc i, h, e) = inr (contains_in ys x (i, omega (arith, h), e))

-- an element among all stands at a place
pub in_contains : {X : Type 0} (xs : Listed X) (x : X) → IsIn xs x → Contains xs x
in_contains [] x a = absurd a
in_contains (y ∷ ys) x (inl e) = (0, omega arith, e)
in_contains (y ∷ ys) x (inr a) =
    let r = in_contains ys x a in (suc r.0, omega (arith, r.1), r.2)

-- ---- what slots name

-- one of the objects whose slots name an object
pub named_by : (heap : Listed Object) (o : ObjectName) → has_object (heap_objects heap) o ≡ true →
    (x : Object) × IsIn heap x × (has_object (objects_in x.slots) o ≡ true)
named_by [] o h = absurd (cc)
named_by (x ∷ heap) o h =
    let e = list_any-append (same_object o) (objects_in x.slots) (heap_objects heap) in
    elim (or_cases _ _ (sym e ∙ h)) [
      | inl a ↦ (x, inl refl, a)
      | inr b ↦ let r = named_by heap o b in (r.0, inr r.1, r.2)
    ]

-- one object names no more than all do
pub one_names : (node k : ℕ) (xs : Listed Stored) (p : Stored) → IsIn xs p
    → values_name node k p.slots ≤ named_in node k xs
one_names node k [] p a = absurd a
one_names node k (x ∷ xs) p (inl e) =
    let f : Stored → ℕ = λ s. values_name node k s.slots in
    omega (arith, sum_by-cons f x xs, ap f e)
one_names node k (x ∷ xs) p (inr a) =
    let f : Stored → ℕ = λ s. values_name node k s.slots in
    omega (arith, sum_by-cons f x xs, one_names node k xs p a)

-- ---- serials

-- the serial of an object of the machine
abbrev pub object_serial : Object → ℕ
object_serial x = x.serial

-- an object has a serial
abbrev pub has_serial : Listed Object → ℕ → Bool
has_serial heap serial = list_any (λ x. x.serial == serial) heap

-- one of the objects that have a serial
pub with_serial : (heap : Listed Object) (k : ℕ) → has_serial heap k ≡ true
    → (x : Object) × IsIn heap x × (x.serial ≡ k)
with_serial [] k h = absurd (cc)
with_serial (x ∷ heap) k h = elim (or_cases _ _ h) [
  | inl a ↦ (x, inl refl, eqb-true x.serial k a)
  | inr b ↦ let r = with_serial heap k b in (r.0, inr r.1, r.2)
]

-- an object's serial is had
pub its_serial : (heap : Listed Object) (x : Object) → IsIn heap x
    → has_serial heap x.serial ≡ true
its_serial [] x a = absurd a
its_serial (y ∷ heap) x (inl e) = or_left _ _ (eq-eqb y.serial x.serial (ap object_serial e))
its_serial (y ∷ heap) x (inr a) = or_right _ _ (its_serial heap x a)

module _ (entry : ℕ → ℕ → Bool) (n : Node) where
  -- what rounds of striking leave rises
  struck-rises : (rounds low top : ℕ) (heap : Listed Object) → Rising object_serial low heap top
      → Rising object_serial low (struck_by rounds entry n heap) top
  struck-rises zero low top heap r = r
  struck-rises (suc rounds) low top heap r =
      go (length (struck entry n heap) == length heap)
      (struck-rises rounds low top (struck entry n heap)
      (rising-filter object_serial (stays entry n heap) low top heap r))
    where
      -- whether another round strikes something or not
      go : (b : Bool)
          → Rising object_serial low (struck_by rounds entry n (struck entry n heap)) top
          → Rising object_serial low
          (elim b [ true ↦ heap | false ↦ struck_by rounds entry n (struck entry n heap) ]) top
      go true rest = r
      go false rest = rest

  -- what is kept rises
  pub kept-rises : (low top : ℕ) → Rising object_serial low n.heap top
      → Rising object_serial low (kept entry n) top
  kept-rises low top r = struck-rises (length n.heap) low top n.heap r
