-- What a node names is at hand still once it freed and left what it does without.
use Rattle.std.proofs.Common.{◌≡◌, ◌==◌, ◌||◌, ℕ, Bool, true, false, cond, inl, inr, List, [], ◌∷◌}
use Rattle.std.proofs.Common.{filter, refl, sym, ap, subst, ◌∙◌, arith}
use Rattle.std.specs.{Prelude.{None, Option, Some, is_some}, List.AllByRecursion}
use Rattle.std.proofs.lemmas.{Bool.{eqb-true, Decides.nat_tests}, List.Folds.list_any-append}
use Rattle.do_base.specs.names.Names.{ObjectName}
use Rattle.do_packet.specs.Met.{has_object, same_object}
use Rattle.do_machine.specs.{declared.node.{Node.Node, Stored.Stored}, Lists.IsIn}
use Rattle.do_machine.specs.{Objects.object_at, State.{has_asked, holds, is_known, is_own, own}}
use Rattle.do_machine.specs.{State.stored, held.Kept.{AreAmong, HoldsItself, is_held_up, is_root}}
use Rattle.do_machine.specs.held.{Kept.{kept, stays}, Leaving.leaving}
use Rattle.do_machine.specs.held.Refers.{heap_objects, node_objects, objects_in, stack_objects}
use Rattle.do_machine.proofs.{Bools.{or_cases, or_left, or_right}, Keeping.are_kept}
use Rattle.do_facts.proofs.links.SameIsEqual.{object_is}
use Rattle.do_at_hand.specs.AtHand.{in_use, is_at_hand}
use Rattle.do_at_hand.proofs.{Shown.AllName, Within.{AtHand, RootWithin, foreign_hand, of_passes}}
use Rattle.do_at_hand.proofs.Within.{own_hand, own_is, passes_of}

-- what holds of each of a heap holds of one in it
of_heap : (P : Stored → Type 0) (xs : List Stored) (x : Stored) → AllByRecursion P xs →
    IsIn xs x → P x
of_heap P [] x h i = absurd i
of_heap P (y ∷ xs) x h (inl e) = subst P e h.0
of_heap P (y ∷ xs) x h (inr i) = of_heap P xs x h.1 i

-- and of each of a heap that is part of it
pub of_part : (P : Stored → Type 0) (few many : List Stored) → AreAmong few many →
    AllByRecursion P many → AllByRecursion P few
of_part P [] many among h = tt
of_part P (x ∷ few) many among h = (
  of_heap P many x h (among.stand x (inl refl)),
  of_part P few many (record { stand = λ y i. among.stand y (inr i) }) h,
)

-- a stored object is in the heap
found_in : (xs : List Stored) (s : ℕ) → is_some (stored s xs) ≡ true →
    (x : Stored) × IsIn xs x × (x.serial ≡ s)
found_in [] s h = absurd (cc)
found_in (x ∷ xs) s h = go (x.serial == s) refl (found_in xs s) h
  where
    go : (b : Bool) → (x.serial == s) ≡ b →
        (is_some (stored s xs) ≡ true → (y : Stored) × IsIn xs y × (y.serial ≡ s)) →
        is_some (cond b (Some x) (stored s xs)) ≡ true →
        (y : Stored) × IsIn (x ∷ xs) y × (y.serial ≡ s)
    go true e k h' = (x, inl refl, eqb-true x.serial s e)
    go false e k h' = let f = k h' in (f.0, inr f.1, f.2)

-- what is in the heap is stored
in_found : (xs : List Stored) (x : Stored) → IsIn xs x → is_some (stored x.serial xs) ≡ true
in_found [] x h = absurd h
in_found (y ∷ ys) x (inl e) =
    subst (λ z. is_some (stored z.serial (y ∷ ys)) ≡ true) e (grind (arith, nat_tests))
in_found (y ∷ ys) x (inr i) =
    let more = in_found ys x i in
    grind (arith, nat_tests, more)

-- what slots of some objects name is named once there is one more
one_more : (x : Stored) (xs : List Stored) (o : ObjectName) →
    has_object (heap_objects xs) o ≡ true → has_object (heap_objects (x ∷ xs)) o ≡ true
one_more x xs o h =
    list_any-append (same_object o) (objects_in x.slots) (heap_objects xs)
    ∙ or_right (has_object (objects_in x.slots) o) (has_object (heap_objects xs) o) h

-- a held object that is referred to is held still
held_still : (refs os : List ObjectName) (o : ObjectName) → has_object refs o ≡ true →
    has_object os o ≡ true → has_object (filter (has_object refs) os) o ≡ true
held_still refs [] o r h = absurd (cc)
held_still refs (x ∷ os) o r h =
    go (same_object o x) (has_object refs x) refl refl (held_still refs os o r) h
  where
    no : has_object refs x ≡ false → has_object refs x ≡ true → ⊥
    no a b = cc

    go : (b c : Bool) → same_object o x ≡ b → has_object refs x ≡ c →
        (has_object os o ≡ true → has_object (filter (has_object refs) os) o ≡ true) →
        (b || has_object os o) ≡ true →
        has_object (cond c (x ∷ filter (has_object refs) os) (filter (has_object refs) os)) o
        ≡ true
    go true true e q rest k =
        or_left (same_object o x) (has_object (filter (has_object refs) os) o) e
    go true false e q rest k =
        absurd (no q (subst (λ y. has_object refs y ≡ true) (object_is o x e) r))
    go false true e q rest k =
        or_right (same_object o x) (has_object (filter (has_object refs) os) o) (rest k)
    go false false e q rest k = rest k

module _ (entry : ℕ → ℕ → Bool) (n : Node) (ok : AtHand n) where
  -- what it keeps
  abbrev heap : List Stored
  heap = kept entry n

  -- the node afterwards
  abbrev m : Node
  m = (leaving entry n).node

  -- what stays is kept
  kept_too : (x : Stored) → IsIn n.heap x → stays entry n heap x ≡ true → IsIn heap x
  kept_too x i s =
      let among : AreAmong (x ∷ heap) n.heap = record { stand = stand } in
      let itself : HoldsItself entry n (x ∷ heap) = record { stay = stay } in
      ((are_kept entry n).greatest (x ∷ heap) among itself).stand x (inl refl)
    where
      more : (y : Stored) → stays entry n heap y ≡ true → stays entry n (x ∷ heap) y ≡ true
      more y h =
          elim (or_cases (is_held_up entry n y.serial)
          (has_object (heap_objects heap) (own n y.serial)) h) [
            | inl a ↦ or_left (is_held_up entry n y.serial)
                (has_object (heap_objects (x ∷ heap)) (own n y.serial)) a
            | inr b ↦ or_right (is_held_up entry n y.serial)
                (has_object (heap_objects (x ∷ heap)) (own n y.serial))
                (one_more x heap (own n y.serial) b)
          ]

      stand : (y : Stored) → IsIn (x ∷ heap) y → IsIn n.heap y
      stand y (inl e) = subst (IsIn n.heap) e i
      stand y (inr j) = (are_kept entry n).part.stand y j

      stay : (y : Stored) → IsIn (x ∷ heap) y → stays entry n (x ∷ heap) y ≡ true
      stay y (inl e) = subst (λ z. stays entry n (x ∷ heap) z ≡ true) e (more x s)
      stay y (inr j) = more y ((are_kept entry n).held_up.stay y j)

  -- an own object that is held up, or that a slot of a kept object names, is stored still
  stored_still : (s : ℕ) → is_some (stored s n.heap) ≡ true →
      (is_held_up entry n s || has_object (heap_objects heap) (own n s)) ≡ true →
      is_some (stored s heap) ≡ true
  stored_still s there up =
      let f = found_in n.heap s there in
      let stay = subst (λ k. (is_held_up entry n k || has_object (heap_objects heap) (own n k))
      ≡ true) (sym f.2) up in
      subst (λ k. is_some (stored k heap) ≡ true) f.2
      (in_found heap f.0 (kept_too f.0 f.1 stay))

  -- what its slots and invocations name now
  abbrev Now : ObjectName → Type 0
  Now o = has_object (in_use m) o ≡ true

  -- they named before
  before : (o : ObjectName) → Now o → is_at_hand n o ≡ true
  before = passes_of (is_at_hand n) m (record {
    heap = of_part (λ x. AllName (is_at_hand n) x.slots) heap n.heap (are_kept entry n).part
        ok.heap;
    stack = ok.stack;
    root = ok.root;
  })

  -- an invocation holds up what it names
  held_up : (s : ℕ) → has_object (stack_objects n.stack) (own n s) ≡ true →
      is_held_up entry n s ≡ true
  held_up s h = grind (arith, h)

  -- a root is held up
  root_up : (s : ℕ) → is_root n s ≡ true → is_held_up entry n s ≡ true
  root_up s h = grind (arith, h)

  -- an own object that is named now is held up or named by a kept object
  up_now : (s : ℕ) → Now (own n s) →
      (is_held_up entry n s || has_object (heap_objects heap) (own n s)) ≡ true
  up_now s now =
      elim (or_cases (has_object (heap_objects heap) (own n s))
      (has_object (stack_objects n.stack) (own n s))
      (sym (list_any-append (same_object (own n s)) (heap_objects heap) (stack_objects n.stack))
      ∙ now)) [
        | inl a ↦ or_right (is_held_up entry n s) (has_object (heap_objects heap) (own n s)) a
        | inr b ↦ or_left (is_held_up entry n s) (has_object (heap_objects heap) (own n s))
            (held_up s b)
      ]

  -- a foreign object that is named now is referred to
  referred : (o : ObjectName) → Now o →
      has_object (node_objects (record n { heap = heap })) o ≡ true
  referred o now =
      elim (or_cases (has_object (heap_objects heap) o) (has_object (stack_objects n.stack) o)
      (sym (list_any-append (same_object o) (heap_objects heap) (stack_objects n.stack)) ∙ now)) [
        | inl a ↦ grind (arith, list_any-append, a)
        | inr b ↦ grind (arith, list_any-append, b)
      ]

  -- what is known and named now is known still
  known_still : (o : ObjectName) → Now o → is_known n o ≡ true → is_known m o ≡ true
  known_still o now h =
      elim (or_cases (holds n o) (has_asked n o) h) [
        | inl a ↦ or_left (holds m o) (has_asked m o)
            (held_still (node_objects (record n { heap = heap })) n.held o (referred o now) a)
        | inr b ↦ or_right (holds m o) (has_asked m o) b
      ]

  -- what is named now is at hand
  hand_now : (o : ObjectName) → Now o → is_at_hand m o ≡ true
  hand_now o now = go (is_own n o) refl (before o now)
    where
      go : (b : Bool) → is_own n o ≡ b →
          cond b (is_some (stored o.serial n.heap)) (is_known n o) ≡ true →
          is_at_hand m o ≡ true
      go true e k =
          let is : own n o.serial ≡ o = ap (λ p. object_at p o.serial)
          (sym (eqb-true o.node n.port e)) in
          own_hand m o e (stored_still o.serial k (up_now o.serial
          (subst Now (sym is) now)))
      go false e k = foreign_hand m o e (known_still o now k)

  -- so is the root
  root_now : (r : Option ℕ) → n.root ≡ r → RootWithin (is_at_hand n) n.port r →
      RootWithin (is_at_hand m) n.port r
  root_now None is h = tt
  root_now (Some s) is h =
      own_hand m (own n s) (own_is n s) (stored_still s
      (ap (λ b. cond b (is_some (stored s n.heap)) (is_known n (own n s))) (sym (own_is n s)) ∙ h)
      (or_left (is_held_up entry n s) (has_object (heap_objects heap) (own n s))
      (root_up s (grind (arith, nat_tests, is)))))

  -- the node names only what is at hand
  pub leaves_at_hand : AtHand m
  leaves_at_hand = of_passes (is_at_hand m) m (root_now n.root refl ok.root) hand_now
