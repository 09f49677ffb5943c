-- Which classes of foreign objects a site keeps.
use Rattle.std.specs.FinMap as map_of
use Rattle.std.proofs.Common.{◌≡◌, ℕ, Bool, true, false, cond, List, [], ◌∷◌, refl, ap, sym, ◌∙◌}
use Rattle.std.proofs.Common.{fold}
use Rattle.std.specs.{Prelude.{None, Some, is_some}, Ordering.{eq_by_cmp, is_eq}}
use Rattle.std.specs.declared.cmp.Ordering.{Ordering, TheVariants.{Equal, Greater, Less}}
use Rattle.std.specs.FinMap.{get-insert, get-retain_keys, get_tied}
use Rattle.do_base.specs.names.Names.{ObjectName}
use Rattle.do_class.specs.declared.ids.ClassId.{ClassId}
use Rattle.do_export.{specs.Counts.entry_cmp, proofs.Order.{entry_same, entry_total}}
use Rattle.do_import.specs.ByObject.{ClassMap, object_of}
use Rattle.do_machine.specs.{declared.node.Node.Node, State.is_known}
use Rattle.do_network.specs.Counting.{Classed, of_known, with_class}

-- what is equal by its test is so
is_equal : (r : Ordering) → is_eq r ≡ true → r ≡ Equal
is_equal Less e = absurd cc
is_equal Equal e = refl
is_equal Greater e = absurd cc

module _ (o : ObjectName) (class : ClassId) where
  -- the object as the key of its class
  abbrev key : ℕ × ℕ
  key = (o.node, o.serial)

  -- a class that is kept stays where another object's, or this one's once more, is told
  class_stays : (classes : ClassMap) (x : Classed) → map_of.get classes key ≡ Some class →
      map_of.get (with_class classes x) key ≡ Some class
  class_stays classes x h = go (map_of.contains_key classes other) refl
    where
      other : ℕ × ℕ
      other = (x.object.node, x.object.serial)

      apart : map_of.contains_key classes other ≡ false → (b : Bool) →
          eq_by_cmp entry_cmp key other ≡ b → cond b (Some x.class) (map_of.get classes key)
          ≡ Some class
      apart none true e =
          let there : map_of.contains_key classes other ≡ true =
          ap is_some (get_tied entry_total classes key other (is_equal _ e) ∙ h) in
          absurd cc
      apart none false e = h

      go : (b : Bool) → map_of.contains_key classes other ≡ b →
          map_of.get (cond b classes (map_of.insert classes other x.class)) key ≡ Some class
      go true e = h
      go false e =
          get-insert entry_total classes other x.class key
          ∙ apart e (eq_by_cmp entry_cmp key other) refl

  -- so it stays whatever classes are told
  pub classes_stay : (xs : List Classed) (classes : ClassMap) →
      map_of.get classes key ≡ Some class → map_of.get (fold with_class classes xs) key ≡ Some class
  classes_stay [] classes h = h
  classes_stay (x ∷ xs) classes h =
      classes_stay xs (with_class classes x) (class_stays classes x h)

-- of an object that is not known no class is kept
pub unknown_class : (n : Node) (classes : ClassMap) (o : ObjectName) → is_known n o ≡ false →
    map_of.get (of_known n classes) (o.node, o.serial) ≡ None
unknown_class n classes o unknown =
    get-retain_keys classes (λ k. is_known n (object_of k)) (o.node, o.serial)
    (λ k tied. ap (λ (e : ℕ × ℕ). is_known n (object_of e))
    (sym (entry_same (o.node, o.serial) k tied)))
    ∙ ap (λ b. cond b (map_of.get classes (o.node, o.serial)) None) unknown
