-- Leaks and their holders are stored and cannot be reached.
use Rattle.std.proofs.Common.{◌≡◌, Bool, true, false, not, List, [], ◌∷◌, ◌++◌, Option, Some, None}
use Rattle.std.proofs.Common.{refl, sym, ap, ◌∙◌, subst, inl, inr, IsSome, map, All, ℕ, ◌+◌}
use Rattle.std.specs.{List.{AllByRecursion, flat_map, list_any}, Option.option_or}
use Rattle.std.proofs.lemmas.Bool.{cases_Bool, both_ways, cond-false, cond-true, false_from_ne_true}
use Rattle.std.proofs.lemmas.{Bool.{or_left, or_right}, List.Elements.{All-append, All-cons}}
use Rattle.std.proofs.lemmas.List.{Elements.{All-nil, recursion_from_All}, map-append}
use Rattle.do_base.specs.{names.Names.ObjectName, values.Values.objects_of}
use Rattle.do_base.specs.declared.values.value.Value.{Value}
use Rattle.do_packet.specs.Met.{has_object, same_object}
use Rattle.do_trace.specs.declared.outcome.{ObjLine.ObjLine, Snapshot.Snapshot}
use Rattle.do_leaks.proofs.{Named.{in_left, in_right, same_self}, Reaching.{reach_least, weaker}}
use Rattle.do_leaks.specs.{Heap.heap_of, Laws.{AreHeld, AreLost, IsLost, lost_names}}
use Rattle.do_leaks.specs.{Leaks.{held_by, holder, holder_in, leak_of, leaks}, Reach.PassesTo}
use Rattle.do_leaks.specs.{Reach.{missed, reach}, declared.leak.{Holder.Holder, Leak.Leak}}

-- what an option of a holder is
one_holder : {a b : Holder} → Some a ≡ Some b → a ≡ b
one_holder f = cc

-- an object that a slot holds is among those of the slots, which are the object's own
holder_in_names : (from : ObjectName) (n : ℕ) (vs : List Value) (o : ObjectName) (h : Holder) →
    holder_in from n vs o ≡ Some h →
    (h.oid ≡ from) × (has_object (flat_map objects_of vs) o ≡ true)
holder_in_names from n [] o h e = absurd (cc)
holder_in_names from n (v ∷ vs) o h e = elim (cases_Bool (has_object (objects_of v) o)) [
  | inl here ↦ (
    ap (λ (x : Holder). x.oid) (one_holder (sym e ∙ cond-true (has_object (objects_of v) o)
        (Some (record { oid = from; slot = n })) (holder_in from (n + 1) vs o) here)),
    in_left (objects_of v) (flat_map objects_of vs) o here,
  )
  | inr later ↦
      let r = holder_in_names from (n + 1) vs o h (sym (cond-false (has_object (objects_of v) o)
      (Some (record { oid = from; slot = n })) (holder_in from (n + 1) vs o) later) ∙ e) in
      (r.0, in_right (objects_of v) (flat_map objects_of vs) o r.1)
]

-- a holder is a stored object that names what it holds
holder_names : (heap : List ObjLine) (o : ObjectName) (h : Holder) → holder heap o ≡ Some h →
    (P : ObjectName → Bool) → AllByRecursion (PassesTo P) heap → P o ≡ false →
    (list_any (λ x. same_object x.oid h.oid) heap ≡ true) × (P h.oid ≡ false)
holder_names [] o h e P closed lost = absurd (cc)
holder_names (x ∷ xs) o h e P closed lost = go (holder_in x.oid 0 x.slots o) refl e
    (λ f. holder_names xs o h f P closed.1 lost)
  where
    go : (first : Option Holder) → holder_in x.oid 0 x.slots o ≡ first →
        option_or first (holder xs o) ≡ Some h →
        (holder xs o ≡ Some h →
        (list_any (λ y. same_object y.oid h.oid) xs ≡ true) × (P h.oid ≡ false)) →
        (list_any (λ y. same_object y.oid h.oid) (x ∷ xs) ≡ true) × (P h.oid ≡ false)
    go None is f later = let r = later f in (
      or_right (same_object x.oid h.oid) (list_any (λ y. same_object y.oid h.oid) xs) r.0,
      r.1,
    )
    go (Some k) is f later =
        let names = holder_in_names x.oid 0 x.slots o h (is ∙ f) in (
          or_left (same_object x.oid h.oid) (list_any (λ y. same_object y.oid h.oid) xs)
              (ap (same_object x.oid) names.0 ∙ same_self x.oid),
          false_from_ne_true (P h.oid) (λ passes. both_ways (P o) lost
              (closed.0 (ap P (sym names.0) ∙ passes) o names.1)),
        )

-- each of some objects is among them
stored_all : (xs : List ObjLine) →
    AllByRecursion (λ x. list_any (λ y. same_object y.oid x.oid) xs ≡ true) xs
stored_all [] = tt
stored_all (x ∷ xs) = (
  or_left (same_object x.oid x.oid) (list_any (λ y. same_object y.oid x.oid) xs) (same_self x.oid),
  weaker (λ z. list_any (λ y. same_object y.oid z.oid) xs ≡ true)
      (λ z. list_any (λ y. same_object y.oid z.oid) (x ∷ xs) ≡ true)
      (λ z h. or_right (same_object x.oid z.oid) (list_any (λ y. same_object y.oid z.oid) xs) h)
      xs (stored_all xs),
)

module _ (s : Snapshot) (named : List ObjectName) where
  -- whether an object was reached
  abbrev reached : ObjectName → Bool
  reached = has_object (reach (heap_of s) named)

  -- the leaks that one object gives
  abbrev here : ObjLine → List Leak
  here = leak_of (heap_of s) reached

  -- an object with this holder gives what is lost
  held_lost : (x : ObjLine) (h : Option Holder) → holder (heap_of s) x.oid ≡ h →
      IsLost (heap_of s) named x.oid → All (AreLost s named) (held_by x.oid h)
  held_lost x None is lost = All-nil (AreLost s named)
  held_lost x (Some h) is lost =
      let r = holder_names (heap_of s) x.oid h is reached
      (recursion_from_All (PassesTo reached) (heap_of s) (reach_least (heap_of s) named).closed)
      lost.unreached in
      All-cons (AreLost s named) (record { oid = x.oid; holder = h.oid; slot = h.slot }) []
      (lost, record { stored = r.0; unreached = r.1 }) (All-nil (AreLost s named))

  -- one object gives what is lost
  one_lost : (x : ObjLine) → list_any (λ y. same_object y.oid x.oid) (heap_of s) ≡ true →
      All (AreLost s named) (here x)
  one_lost x there = elim (cases_Bool (reached x.oid)) [
    | inl has ↦ subst (All (AreLost s named))
        (sym (cond-true (reached x.oid) [] (held_by x.oid (holder (heap_of s) x.oid)) has))
        (All-nil (AreLost s named))
    | inr lost ↦ subst (All (AreLost s named))
        (sym (cond-false (reached x.oid) [] (held_by x.oid (holder (heap_of s) x.oid)) lost))
        (held_lost x (holder (heap_of s) x.oid) refl (record { stored = there; unreached = lost }))
  ]

  -- and so do all
  some_lost : (xs : List ObjLine) →
      AllByRecursion (λ x. list_any (λ y. same_object y.oid x.oid) (heap_of s) ≡ true) xs →
      All (AreLost s named) (flat_map here xs)
  some_lost [] there = All-nil (AreLost s named)
  some_lost (x ∷ xs) there = All-append (AreLost s named) (here x) (flat_map here xs)
      (one_lost x there.0) (some_lost xs there.1)

  -- each leak is lost, and its holder
  pub each_lost : All (AreLost s named) (leaks s named)
  each_lost = some_lost (heap_of s) (stored_all (heap_of s))

  -- an object that has a holder gives itself
  held_one : (o : ObjectName) (h : Option Holder) → IsSome h →
      map (λ (l : Leak). l.oid) (held_by o h) ≡ o ∷ []
  held_one o None some = absurd (cc)
  held_one o (Some h) some = refl

  -- those that are missed are listed
  some_listed : (xs : List ObjLine) →
      AllByRecursion (λ x. IsSome (holder (heap_of s) x.oid))
      (missed (reach (heap_of s) named) xs) → map (λ (l : Leak). l.oid) (flat_map here xs)
      ≡ map (λ (x : ObjLine). x.oid) (missed (reach (heap_of s) named) xs)
  some_listed [] held = refl
  some_listed (x ∷ xs) held =
      let name = λ (x : ObjLine). x.oid in
      let object = λ (l : Leak). l.oid in
      let rest = missed (reach (heap_of s) named) xs in
      let made = held_by x.oid (holder (heap_of s) x.oid) in
      elim (cases_Bool (reached x.oid)) [
        | inl has ↦
            let out = cond-false (not (reached x.oid)) (x ∷ rest) rest (ap not has) in
            ap (λ ls. map object (ls ++ flat_map here xs)) (cond-true (reached x.oid) [] made has)
            ∙ some_listed xs
            (subst (AllByRecursion (λ y. IsSome (holder (heap_of s) y.oid))) out held)
            ∙ ap (map name) (sym out)
        | inr lost ↦
            let out = cond-true (not (reached x.oid)) (x ∷ rest) rest (ap not lost) in
            let more = subst (AllByRecursion (λ y. IsSome (holder (heap_of s) y.oid))) out held in
            ap (λ ls. map object (ls ++ flat_map here xs)) (cond-false (reached x.oid) [] made lost)
            ∙ map-append object made (flat_map here xs)
            ∙ ap (λ os. os ++ map object (flat_map here xs))
            (held_one x.oid (holder (heap_of s) x.oid) more.0)
            ∙ ap (λ os. x.oid ∷ os) (some_listed xs more.1) ∙ ap (map name) (sym out)
      ]

  -- where all that are lost have holders, the leaks are these
  pub all_listed : AreHeld s named → map (λ (l : Leak). l.oid) (leaks s named) ≡ lost_names s named
  all_listed held = some_listed (heap_of s)
      (recursion_from_All (λ x. IsSome (holder (heap_of s) x.oid))
      (missed (reach (heap_of s) named) (heap_of s)) held)
