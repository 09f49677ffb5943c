-- What is computed is the smallest set.
use Rattle.std.proofs.Common.{◌≡◌, Bool, true, false, not, ℕ, suc, zero, ◌≤◌, List, [], ◌∷◌, ◌++◌}
use Rattle.std.{proofs.Common.{length, refl, sym, ap, subst, arith, inl, inr}, specs.Prelude.filter}
use Rattle.std.{specs.List.{AllByRecursion, flat_map}, proofs.lemmas.Bool.{cases_Bool, both_ways}}
use Rattle.std.proofs.lemmas.{Bool.{cond-false, cond-true}, List.Elements.All-from_recursion}
use Rattle.std.proofs.lemmas.List.{Elements.recursion_from_All, Filters.length-filter_both}
use Rattle.do_base.specs.names.Names.{ObjectName}
use Rattle.do_packet.specs.Met.{has_object}
use Rattle.do_trace.specs.declared.outcome.ObjLine.{ObjLine}
use Rattle.do_leaks.{proofs.Named.{in_either, in_left, in_right}, specs.Heap.names_in}
use Rattle.do_leaks.specs.Reach.{AllPass, IsReach, PassesTo, found, missed, reach, reach_in}

-- what holds of the objects found and of those missed holds of all
from_both : (P : ObjLine → Type 0) (os : List ObjectName) (heap : List ObjLine) →
    AllByRecursion P (found os heap) → AllByRecursion P (missed os heap) → AllByRecursion P heap
from_both P os [] f m = tt
from_both P os (x ∷ xs) f m = elim (cases_Bool (has_object os x.oid)) [
  | inl e ↦
      let f2 = subst (AllByRecursion P)
      (cond-true (has_object os x.oid) (x ∷ found os xs) (found os xs) e) f in
      let m2 = subst (AllByRecursion P)
      (cond-false (not (has_object os x.oid)) (x ∷ missed os xs) (missed os xs) (ap not e)) m in
      (f2.0, from_both P os xs f2.1 m2)
  | inr e ↦
      let f2 = subst (AllByRecursion P)
      (cond-false (has_object os x.oid) (x ∷ found os xs) (found os xs) e) f in
      let m2 = subst (AllByRecursion P)
      (cond-true (not (has_object os x.oid)) (x ∷ missed os xs) (missed os xs) (ap not e)) m in
      (m2.0, from_both P os xs f2 m2.1)
]

-- what holds of all holds of those that pass a test, which do pass it
of_those : (P : ObjLine → Type 0) (test : ObjLine → Bool) (heap : List ObjLine) →
    AllByRecursion P heap → AllByRecursion (λ x. P x × (test x ≡ true)) (filter test heap)
of_those P test [] h = tt
of_those P test (x ∷ xs) h = elim (cases_Bool (test x)) [
  | inl e ↦ subst (AllByRecursion (λ y. P y × (test y ≡ true)))
      (sym (cond-true (test x) (x ∷ filter test xs) (filter test xs) e))
      ((h.0, e), of_those P test xs h.1)
  | inr e ↦ subst (AllByRecursion (λ y. P y × (test y ≡ true)))
      (sym (cond-false (test x) (x ∷ filter test xs) (filter test xs) e))
      (of_those P test xs h.1)
]

-- a weaker fact holds of all, too
pub weaker : (P Q : ObjLine → Type 0) → ((x : ObjLine) → P x → Q x) → (heap : List ObjLine) →
    AllByRecursion P heap → AllByRecursion Q heap
weaker P Q f [] h = tt
weaker P Q f (x ∷ xs) h = (f x h.0, weaker P Q f xs h.1)

-- each fact of nothing holds of all
all_of_any : (heap : List ObjLine) → AllByRecursion (λ x. Unit {0}) heap
all_of_any [] = tt
all_of_any (x ∷ xs) = (tt, all_of_any xs)

-- what is there stays
pub grows : (n : ℕ) (heap : List ObjLine) (os : List ObjectName) →
    AllPass (has_object (reach_in n heap os)) os
grows zero heap os = λ o h. h
grows (suc n) heap os = go (found os heap) (λ more. grows n (missed os heap) (os ++ more))
  where
    go : (f : List ObjLine) → ((more : List ObjectName) →
        AllPass (has_object (reach_in n (missed os heap) (os ++ more))) (os ++ more)) →
        AllPass (has_object (elim f [
          | [] ↦ os
          | x ∷ xs ↦ reach_in n (missed os heap) (os ++ flat_map names_in (x ∷ xs))
        ])) os
    go [] later = λ o h. h
    go (x ∷ xs) later = λ o h.
        later (flat_map names_in (x ∷ xs)) o (in_left os (flat_map names_in (x ∷ xs)) o h)

-- what all of them name passes, so what each names does
each_names : (test : ObjectName → Bool) (xs : List ObjLine) →
    AllPass test (flat_map names_in xs) → AllByRecursion (λ x. AllPass test (names_in x)) xs
each_names test [] h = tt
each_names test (x ∷ xs) h = (
  λ o i. h o (in_left (names_in x) (flat_map names_in xs) o i),
  each_names test xs (λ o i. h o (in_right (names_in x) (flat_map names_in xs) o i)),
)

-- and the other way round
all_names : (test : ObjectName → Bool) (xs : List ObjLine) →
    AllByRecursion (λ x. AllPass test (names_in x)) xs → AllPass test (flat_map names_in xs)
all_names test [] h = λ o i. absurd (both_ways false refl i)
all_names test (x ∷ xs) h = λ o i.
    elim (in_either (names_in x) (flat_map names_in xs) o i) [
      | inl here ↦ h.0 o here
      | inr later ↦ all_names test xs h.1 o later
    ]

-- where some are found, fewer are missed
fewer : (os : List ObjectName) (heap : List ObjLine) (x : ObjLine) (xs : List ObjLine) (n : ℕ) →
    found os heap ≡ x ∷ xs → length heap ≤ suc n → length (missed os heap) ≤ n
fewer os heap x xs n e h =
    let both = length-filter_both (λ y. has_object os y.oid) (λ y. not (has_object os y.oid))
    (λ y. refl) heap in
    let some : length (found os heap) ≡ suc (length xs) = ap length e in
    omega arith

-- what those missed do not have does not matter
missed_pass : (os : List ObjectName) (heap : List ObjLine) →
    AllByRecursion (PassesTo (has_object os)) (missed os heap)
missed_pass os heap =
    weaker (λ x. Unit {0} × (not (has_object os x.oid) ≡ true)) (PassesTo (has_object os))
    (λ x lost has. absurd (both_ways (not (has_object os x.oid)) (ap not has) lost.1))
    (missed os heap)
    (of_those (λ x. Unit {0}) (λ x. not (has_object os x.oid)) heap (all_of_any heap))

-- what is computed is closed
closed_in : (n : ℕ) (heap : List ObjLine) (os : List ObjectName) → length heap ≤ n →
    AllByRecursion (PassesTo (has_object (reach_in n heap os))) heap
closed_in n [] os h = tt
closed_in zero (x ∷ xs) os h = absurd (omega arith)
closed_in (suc n) (x ∷ xs) os h =
    go (found os (x ∷ xs)) refl
    (λ more less. closed_in n (missed os (x ∷ xs)) (os ++ more) less)
  where
    go : (f : List ObjLine) → found os (x ∷ xs) ≡ f → ((more : List ObjectName) →
        length (missed os (x ∷ xs)) ≤ n →
        AllByRecursion (PassesTo (has_object (reach_in n (missed os (x ∷ xs)) (os ++ more))))
        (missed os (x ∷ xs))) →
        AllByRecursion (PassesTo (has_object (elim f [
          | [] ↦ os
          | y ∷ ys ↦ reach_in n (missed os (x ∷ xs)) (os ++ flat_map names_in (y ∷ ys))
        ]))) (x ∷ xs)
    go [] e later = from_both (PassesTo (has_object os)) os (x ∷ xs)
        (subst (AllByRecursion (PassesTo (has_object os))) (sym e) tt) (missed_pass os (x ∷ xs))
    go (y ∷ ys) e later =
        let more = flat_map names_in (y ∷ ys) in
        let all = reach_in n (missed os (x ∷ xs)) (os ++ more) in
        let names : AllPass (has_object all) more =
        λ o i. grows n (missed os (x ∷ xs)) (os ++ more) o (in_right os more o i) in
        from_both (PassesTo (has_object all)) os (x ∷ xs)
        (subst (AllByRecursion (PassesTo (has_object all))) (sym e)
        (weaker (λ z. AllPass (has_object all) (names_in z)) (PassesTo (has_object all))
        (λ z pass has. pass) (y ∷ ys) (each_names (has_object all) (y ∷ ys) names)))
        (later more (fewer os (x ∷ xs) y ys n e h))

-- what is computed is in each closed set
smallest_in : (test : ObjectName → Bool) (n : ℕ) (heap : List ObjLine) (os : List ObjectName) →
    AllPass test os → AllByRecursion (PassesTo test) heap → AllPass test (reach_in n heap os)
smallest_in test zero heap os start pass = start
smallest_in test (suc n) heap os start pass =
    go (found os heap) refl
    (λ more all. smallest_in test n (missed os heap) (os ++ more) all
    (weaker (λ x. PassesTo test x × (not (has_object os x.oid) ≡ true)) (PassesTo test)
    (λ x p. p.0) (missed os heap)
    (of_those (PassesTo test) (λ x. not (has_object os x.oid)) heap pass)))
  where
    go : (f : List ObjLine) → found os heap ≡ f → ((more : List ObjectName) →
        AllPass test (os ++ more) → AllPass test (reach_in n (missed os heap) (os ++ more))) →
        AllPass test (elim f [
          | [] ↦ os
          | y ∷ ys ↦ reach_in n (missed os heap) (os ++ flat_map names_in (y ∷ ys))
        ])
    go [] e later = start
    go (y ∷ ys) e later =
        let names : AllPass test (flat_map names_in (y ∷ ys)) =
        all_names test (y ∷ ys) (subst (AllByRecursion (λ x. AllPass test (names_in x))) e
        (weaker (λ x. PassesTo test x × (has_object os x.oid ≡ true))
        (λ x. AllPass test (names_in x)) (λ x p. p.0 (start x.oid p.1)) (found os heap)
        (of_those (PassesTo test) (λ x. has_object os x.oid) heap pass))) in
        later (flat_map names_in (y ∷ ys)) (λ o i.
        elim (in_either os (flat_map names_in (y ∷ ys)) o i) [
          | inl early ↦ start o early
          | inr late ↦ names o late
        ])

-- what is computed is the smallest set that has the named objects and is closed
pub reach_least : (heap : List ObjLine) (named : List ObjectName) →
    IsReach heap named (reach heap named)
reach_least heap named = record {
  named_there = grows (length heap) heap named;
  closed = All-from_recursion (PassesTo (has_object (reach heap named))) heap
      (closed_in (length heap) heap named (omega arith));
  smallest = λ test start closed. smallest_in test (length heap) heap named start
      (recursion_from_All (PassesTo test) heap closed);
}
