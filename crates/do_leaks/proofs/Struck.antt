-- What is left of a heap is what was not reached.
use Rattle.std.proofs.Common.{◌≡◌, Bool, true, List, [], ◌∷◌, ◌++◌, Option, Some, None, refl, sym}
use Rattle.std.proofs.Common.{ap, ◌∙◌, subst, inl, inr, cond, IsSome}
use Rattle.std.specs.List.{AllByRecursion, flat_map}
use Rattle.std.proofs.lemmas.Bool.{cases_Bool, both_ways, cond-false, cond-true, false_from_ne_true}
use Rattle.std.proofs.lemmas.List.Elements.{All-from_recursion, recursion_from_All}
use Rattle.do_base.specs.names.Names.{ObjectName}
use Rattle.do_packet.specs.Met.{has_object, same_object}
use Rattle.do_trace.specs.declared.outcome.ObjLine.{ObjLine}
use Rattle.do_leaks.proofs.Named.{in_either, in_left, in_right, same_is, same_self}
use Rattle.do_leaks.proofs.Reaching.{reach_least, weaker}
use Rattle.do_leaks.specs.{Heap.names_in, Leaks.{held_by, leak_of, leaks_of, holder}}
use Rattle.do_leaks.specs.{Listed.leak_left, Reach.{AllPass, PassesTo, reach}}
use Rattle.do_leaks.specs.Rest.{HoldersByObject, IsRestOf, IsStruck, NamesByObject, holder_at}
use Rattle.do_leaks.specs.Rest.{is_gone, joined, named_at, named_from, names_of}

-- an option is a list that has these objects
abbrev Covers : Option (List ObjectName) → List ObjectName → Type 0
Covers a ns = (os : List ObjectName) × (a ≡ Some os) × AllPass (has_object os) ns

-- more in front or behind still has them
covers_joined : (a b : Option (List ObjectName)) (ns : List ObjectName) → Covers b ns →
    Covers (joined a b) ns
covers_joined None b ns c = c
covers_joined (Some ps) b ns c = (
  ps ++ c.0,
  ap (joined (Some ps)) c.1,
  λ o i. in_right ps c.0 o (c.2 o i),
)

-- a list of its own in front has them
covers_own : (ns : List ObjectName) (b : Option (List ObjectName)) → Covers (joined (Some ns) b) ns
covers_own ns None = (ns, refl, λ o i. i)
covers_own ns (Some ps) = (ns ++ ps, refl, λ o i. in_left ns ps o i)

-- the list of a stored object has what it names
covered : (xs : List ObjLine) → AllByRecursion (λ y. Covers (named_from xs y.oid) (names_in y)) xs
covered [] = tt
covered (x ∷ xs) = (
  subst (λ a. Covers (joined a (named_from xs x.oid)) (names_in x))
      (sym (cond-true (same_object x.oid x.oid) (Some (names_in x)) None (same_self x.oid)))
      (covers_own (names_in x) (named_from xs x.oid)),
  weaker (λ y. Covers (named_from xs y.oid) (names_in y))
      (λ y. Covers (named_from (x ∷ xs) y.oid) (names_in y))
      (λ y c. covers_joined (named_at x y.oid) (named_from xs y.oid) (names_in y) c)
      xs (covered xs),
)

-- what is there is one list
one_list : {a b : List ObjectName} → Some a ≡ Some b → a ≡ b
one_list f = cc

-- what the stored objects of a name name passes where the object does
named_pass : (test : ObjectName → Bool) (xs : List ObjLine) → AllByRecursion (PassesTo test) xs →
    (o : ObjectName) (os : List ObjectName) → named_from xs o ≡ Some os → test o ≡ true →
    AllPass test os
named_pass test [] closed o os e passes = absurd (cc)
named_pass test (x ∷ xs) closed o os e passes = elim (cases_Bool (same_object x.oid o)) [
  | inr apart ↦ named_pass test xs closed.1 o os
      (sym (ap (λ a. joined a (named_from xs o))
      (cond-false (same_object x.oid o) (Some (names_in x)) None apart)) ∙ e) passes
  | inl same ↦
      go (named_from xs o) (λ ps f. named_pass test xs closed.1 o ps f passes)
      (closed.0 (ap test (same_is x.oid o same) ∙ passes)) refl
      (sym (ap (λ a. joined a (named_from xs o))
      (cond-true (same_object x.oid o) (Some (names_in x)) None same)) ∙ e)
]
  where
    go : (b : Option (List ObjectName)) →
        ((ps : List ObjectName) → named_from xs o ≡ Some ps → AllPass test ps) →
        AllPass test (names_in x) → named_from xs o ≡ b → joined (Some (names_in x)) b ≡ Some os →
        AllPass test os
    go None later own is f = subst (AllPass test) (one_list f) own
    go (Some ps) later own is f = subst (AllPass test) (one_list f)
        (λ q i. elim (in_either (names_in x) ps q i) [
          | inl early ↦ own q early
          | inr late ↦ later ps is q late
        ])

module _ (heap : List ObjLine) (named : List ObjectName) (first left : NamesByObject)
    (first_is : IsRestOf heap first) (struck : IsStruck first named left) where
  -- what is gone was reached
  gone_reached : (o : ObjectName) → IsSome (names_of first o) → is_gone left o ≡ true →
      has_object (reach heap named) o ≡ true
  gone_reached = struck.smallest (has_object (reach heap named))
      (reach_least heap named).named_there
      (λ o os e has. named_pass (has_object (reach heap named)) heap
      (recursion_from_All (PassesTo (has_object (reach heap named))) heap
      (reach_least heap named).closed) o os (sym (first_is o) ∙ e) has)

  -- what was reached is gone
  reached_gone : AllPass (is_gone left) (reach heap named)
  reached_gone = (reach_least heap named).smallest (is_gone left) struck.named_gone
      (All-from_recursion (PassesTo (is_gone left)) heap
      (weaker (λ y. Covers (named_from heap y.oid) (names_in y)) (PassesTo (is_gone left))
      (λ y c gone o i. struck.passed_on y.oid c.0 (first_is y.oid ∙ c.1) gone o (c.2 o i))
      heap (covered heap)))

  -- a stored object is gone where it was reached
  gone_is : AllByRecursion (λ y. is_gone left y.oid ≡ has_object (reach heap named) y.oid) heap
  gone_is = weaker (λ y. Covers (named_from heap y.oid) (names_in y))
      (λ y. is_gone left y.oid ≡ has_object (reach heap named) y.oid)
      (λ y c. elim (cases_Bool (has_object (reach heap named) y.oid)) [
        | inl has ↦ reached_gone y.oid has ∙ sym has
        | inr lost ↦ false_from_ne_true (is_gone left y.oid)
            (λ gone. both_ways (has_object (reach heap named) y.oid) lost
            (gone_reached y.oid (subst IsSome (sym (first_is y.oid ∙ c.1)) refl) gone)) ∙ sym lost
      ]) heap (covered heap)

-- two functions that agree at each item list the same
flat_map_agree : {X Y : Type 0} (f g : X → List Y) (xs : List X) →
    AllByRecursion (λ x. f x ≡ g x) xs → flat_map f xs ≡ flat_map g xs
flat_map_agree f g [] h = refl
flat_map_agree f g (x ∷ xs) h =
    ap (λ ys. ys ++ flat_map f xs) h.0 ∙ ap (λ ys. g x ++ ys) (flat_map_agree f g xs h.1)

-- what is listed by what is left are the leaks
pub listed_leaks : (heap : List ObjLine) (named : List ObjectName) (first left : NamesByObject)
    (holders : HoldersByObject) → IsRestOf heap first → IsStruck first named left →
    ((o : ObjectName) → holder_at holders o ≡ holder heap o) →
    flat_map (leak_left left holders) heap ≡ leaks_of heap named
listed_leaks heap named first left holders first_is struck held =
    flat_map_agree (leak_left left holders) (leak_of heap (has_object (reach heap named))) heap
    (weaker (λ y. is_gone left y.oid ≡ has_object (reach heap named) y.oid)
    (λ y. leak_left left holders y ≡ leak_of heap (has_object (reach heap named)) y)
    (λ y e. ap (λ b. cond b [] (held_by y.oid (holder_at holders y.oid))) e
    ∙ ap (λ h. cond (has_object (reach heap named) y.oid) [] (held_by y.oid h)) (held y.oid))
    heap (gone_is heap named first left first_is struck))
