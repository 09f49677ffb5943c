-- What a node keeps is the greatest part of its heap that holds itself up.
use Rattle.std.proofs.Common.{◌≡◌, ℕ, zero, suc, ◌<◌, ◌≤◌, Bool, true, false, List, [], ◌∷◌, filter}
use Rattle.std.proofs.Common.{length, refl, sym, ◌∙◌, subst, arith, ◌⊎◌, inl, inr, ◌==◌}
use Rattle.std.proofs.lemmas.List.Folds.{list_any-append}
use Rattle.do_base.specs.names.Names.{ObjectName}
use Rattle.do_packet.specs.Met.{has_object, same_object}
use Rattle.do_machine.specs.{declared.node.{Node.Node, Stored.Stored}, Lists.IsIn, State.own}
use Rattle.do_machine.specs.held.Kept.{AreAmong, AreKept, HoldsItself, kept, stays, struck}
use Rattle.do_machine.specs.held.{Kept.struck_by, Refers.{heap_objects, objects_in}}
use Rattle.do_machine.proofs.Bools.{or_cases}

-- ---- membership

-- an element that passes is among those that do
among_filter : {X : Type 0} (p : X → Bool) (xs : List X) (x : X) → IsIn xs x → p x ≡ true →
    IsIn (filter p xs) x
among_filter p [] x a e = a
among_filter p (y ∷ ys) x a e = grind (arith, a, e, among_filter p ys x)

-- what is among the elements that pass is among all
filter_among : {X : Type 0} (p : X → Bool) (xs : List X) (x : X) → IsIn (filter p xs) x → IsIn xs x
filter_among p [] x a = a
filter_among p (y ∷ ys) x a = grind (arith, a, filter_among p ys x)

-- and it passes
filter_passes : {X : Type 0} (p : X → Bool) (xs : List X) (x : X) → IsIn (filter p xs) x →
    p x ≡ true
filter_passes p [] x a = absurd a
filter_passes p (y ∷ ys) x a = grind (arith, a, filter_passes p ys x)

-- a filter leaves all, or shortens
filter_cases : {X : Type 0} (p : X → Bool) (xs : List X) →
    (filter p xs ≡ xs) ⊎ (length (filter p xs) < length xs)
filter_cases p [] = inl refl
filter_cases p (x ∷ xs) = grind (arith, filter_cases p xs)

-- ---- what slots name

-- what the slots of one object name is named by the heap
names_in : (heap : List Stored) (o : ObjectName) (x : Stored) → IsIn heap x →
    has_object (objects_in x.slots) o ≡ true → has_object (heap_objects heap) o ≡ true
names_in [] o x a h = absurd a
names_in (y ∷ heap) o x a h =
    grind (
      arith,
      list_any-append (same_object o) (objects_in y.slots) (heap_objects heap),
      a,
      h,
      names_in heap o x,
    )

-- what some objects name, more of them name
named_more : (few many : List Stored) (o : ObjectName) → AreAmong few many →
    has_object (heap_objects few) o ≡ true → has_object (heap_objects many) o ≡ true
named_more [] many o w h = absurd (cc)
named_more (x ∷ few) many o w h =
    let e = list_any-append (same_object o) (objects_in x.slots) (heap_objects few) in
    elim (or_cases _ _ (sym e ∙ h)) [
      | inl a ↦ names_in many o x (w.stand x (inl refl)) a
      | inr b ↦ named_more few many o (record { stand = λ y k. w.stand y (inr k) }) b
    ]

-- ---- rounds of striking

module _ (entry : ℕ → ℕ → Bool) (n : Node) where
  -- what a round leaves
  abbrev round : List Stored → List Stored
  round heap = struck entry n heap

  -- what rounds leave
  abbrev left : ℕ → List Stored → List Stored
  left rounds heap = struck_by rounds entry n heap

  -- what holds of a heap that a round leaves as long, or else of what further rounds leave
  pub chosen : (P : List Stored → Type 0) (rounds : ℕ) (heap : List Stored) →
      ((length (round heap) == length heap) ≡ true → P heap) →
      ((length (round heap) == length heap) ≡ false → P (left rounds (round heap))) →
      P (left (suc rounds) heap)
  chosen P rounds heap last more = by (length (round heap) == length heap) refl
    where
      by : (b : Bool) → (length (round heap) == length heap) ≡ b →
          P (elim b [ true ↦ heap | false ↦ left rounds (round heap) ])
      by true e = last e
      by false e = more e

  -- after as many rounds as there are objects no more can be struck
  fixed : (rounds : ℕ) (heap : List Stored) → length heap ≤ rounds →
      round (left rounds heap) ≡ left rounds heap
  fixed zero [] h = refl
  fixed zero (x ∷ heap) h = absurd (omega arith)
  fixed (suc rounds) heap h =
      let c = filter_cases (stays entry n heap) heap in
      chosen (λ l. round l ≡ l) rounds heap (λ q. grind (arith, c, q))
      (λ q. fixed rounds (round heap) (grind (arith, c, q, h)))

  -- what rounds leave was there
  left_of : (rounds : ℕ) (heap : List Stored) (x : Stored) → IsIn (left rounds heap) x → IsIn heap x
  left_of zero heap x = λ a. a
  left_of (suc rounds) heap x =
      chosen (λ l. IsIn l x → IsIn heap x) rounds heap (λ _ a. a)
      (λ _ a. filter_among (stays entry n heap) heap x (left_of rounds (round heap) x a))

  -- what holds itself up is held up by more
  stays_more : (few many : List Stored) (x : Stored) → AreAmong few many →
      stays entry n few x ≡ true → stays entry n many x ≡ true
  stays_more few many x w h = grind (arith, h, named_more few many (own n x.serial) w)

  -- and no round strikes it
  unstruck : (these heap : List Stored) → HoldsItself entry n these → AreAmong these heap →
      AreAmong these (round heap)
  unstruck these heap u w = record {
    stand = λ x a.
        among_filter (stays entry n heap) heap x (w.stand x a)
        (stays_more these heap x w (u.stay x a));
  }

  -- nor do any rounds
  within : (these : List Stored) → HoldsItself entry n these → (rounds : ℕ) (heap : List Stored) →
      AreAmong these heap → AreAmong these (left rounds heap)
  within these u zero heap w = w
  within these u (suc rounds) heap w =
      chosen (AreAmong these) rounds heap (λ _. w)
      (λ _. within these u rounds (round heap) (unstruck these heap u w))

  -- the computed objects are those that are kept
  pub are_kept : AreKept entry n (kept entry n)
  are_kept = record {
    part = record { stand = λ x a. left_of (length n.heap) n.heap x a };
    held_up = record {
      stay = λ x a.
          filter_passes (stays entry n (kept entry n)) (kept entry n) x
          (subst (λ heap. IsIn heap x) (sym (fixed (length n.heap) n.heap (omega arith))) a);
    };
    greatest = λ these w u. within these u (length n.heap) n.heap w;
  }
