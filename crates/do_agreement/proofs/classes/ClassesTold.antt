-- The classes that a node keeps once an item told some.
use Rattle.std.specs.FinMap as map_of
use Rattle.std.proofs.Common.{◌≡◌, ◌==◌, ◌&&◌, ℕ, Bool, true, false, cond, List, [], ◌∷◌, fold}
use Rattle.std.proofs.Common.{refl, sym, ap, ◌∙◌, arith}
use Rattle.std.specs.{Prelude.{None, Option, Some, is_some}, List.AllByRecursion}
use Rattle.std.{specs.{Ordering.eq_by_cmp, FinMap.get-insert}, proofs.lemmas.Bool.Decides.nat_tests}
use Rattle.do_base.specs.names.Names.{ObjectName}
use Rattle.do_class.specs.declared.ids.ClassId.{ClassId}
use Rattle.do_export.{specs.Counts.entry_cmp, proofs.{Counting.tie, Order.entry_total}}
use Rattle.do_import.specs.ByObject.{ClassMap}
use Rattle.do_packet.specs.Met.{same_object}
use Rattle.do_network.{specs.Counting.{Classed, with_class}, proofs.ClassesKept.classes_stay}
use Rattle.do_facts.proofs.links.SameIsEqual.{object_is}

-- the class of an object among those kept
abbrev pub class_in : ClassMap → ObjectName → Option ClassId
class_in classes o = map_of.get classes (o.node, o.serial)

module _ (class_is : ObjectName → Option ClassId) where
  -- a class that is kept is the object's
  abbrev pub AreRight : ClassMap → Type 0
  AreRight classes =
      (o : ObjectName) → is_some (class_in classes o) ≡ true → class_in classes o ≡ class_is o

  -- keys that tie are of one object
  one_object : (o x : ObjectName) →
      eq_by_cmp entry_cmp (o.node, o.serial) (x.node, x.serial) ≡ true → o ≡ x
  one_object o x e = object_is o x (turned (sym (tie x.node x.serial o.node o.serial) ∙ e))
    where
      turned : ((x.node == o.node) && (x.serial == o.serial)) ≡ true → same_object o x ≡ true
      turned h = grind (arith, nat_tests, h)

  module _ (classes : ClassMap) (right : AreRight classes) (x : Classed)
      (is : class_is x.object ≡ Some x.class) where
    -- the key of the object
    abbrev key : ℕ × ℕ
    key = (x.object.node, x.object.serial)

    -- the classes with that of the object are right
    right_more : AreRight (with_class classes x)
    right_more o some = go (map_of.contains_key classes key) some
      where
        new : (b : Bool) → eq_by_cmp entry_cmp (o.node, o.serial) key ≡ b →
            is_some (cond b (Some x.class) (class_in classes o)) ≡ true →
            cond b (Some x.class) (class_in classes o) ≡ class_is o
        new true e h = sym (ap class_is (one_object o x.object e) ∙ is)
        new false e h = right o h

        go : (b : Bool) →
            is_some (class_in (cond b classes (map_of.insert classes key x.class)) o) ≡ true →
            class_in (cond b classes (map_of.insert classes key x.class)) o ≡ class_is o
        go true h = right o h
        go false h =
            let got = get-insert entry_total classes key x.class (o.node, o.serial) in
            got ∙ new (eq_by_cmp entry_cmp (o.node, o.serial) key) refl (sym (ap is_some got) ∙ h)

    -- and its class is kept
    class_there : class_in (with_class classes x) x.object ≡ Some x.class
    class_there = go (map_of.contains_key classes key) refl
      where
        itself : eq_by_cmp entry_cmp key key ≡ true
        itself = tie x.object.node x.object.serial x.object.node x.object.serial
            ∙ grind (arith, nat_tests)

        go : (b : Bool) → map_of.contains_key classes key ≡ b →
            class_in (cond b classes (map_of.insert classes key x.class)) x.object ≡ Some x.class
        go true h = right x.object h ∙ is
        go false h =
            get-insert entry_total classes key x.class key
            ∙ ap (λ b. cond b (Some x.class) (map_of.get classes key)) itself

  -- each class that is told is kept
  pub told_kept : (xs : List Classed) (classes : ClassMap) → AreRight classes →
      AllByRecursion (λ x. class_is x.object ≡ Some x.class) xs →
      AllByRecursion (λ x. class_in (fold with_class classes xs) x.object ≡ class_is x.object) xs
  told_kept [] classes right all = tt
  told_kept (x ∷ xs) classes right all = (
    classes_stay x.object x.class xs (with_class classes x) (class_there classes right x all.0)
        ∙ sym all.0,
    told_kept xs (with_class classes x) (right_more classes right x all.0) all.1,
  )

  -- a class that was kept is kept
  pub class_still : (xs : List Classed) (classes : ClassMap) (o : ObjectName) →
      is_some (class_is o) ≡ true → class_in classes o ≡ class_is o →
      class_in (fold with_class classes xs) o ≡ class_is o
  class_still xs classes o some same = go (class_is o) some same
    where
      go : (found : Option ClassId) → is_some found ≡ true → class_in classes o ≡ found →
          class_in (fold with_class classes xs) o ≡ found
      go None h e = absurd (cc)
      go (Some c) h e = classes_stay o c xs classes e
