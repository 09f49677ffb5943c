-- The classes that nodes keep are those of the state after a move.
use Rattle.do_machine.specs.declared.item.Item.TheVariants as items
use Rattle.std.proofs.Common.{◌≡◌, ℕ, Bool, true, false, cond, List, [], ◌∷◌, fold, refl, sym, ap}
use Rattle.std.{proofs.Common.{◌∙◌, subst}, specs.Prelude.{None, Option, Some, if◌then◌else◌}}
use Rattle.std.specs.{Prelude.is_some, List.AllByRecursion, FinMap.get-retain_keys}
use Rattle.do_base.specs.names.Names.{ObjectName}
use Rattle.do_class.specs.declared.ids.ClassId.{ClassId}
use Rattle.do_export.proofs.Order.{entry_same}
use Rattle.do_import.specs.ByObject.{ClassMap, object_of}
use Rattle.do_machine.specs.declared.{item.Item.Item, node.Node.Node, state.Effect.Effect}
use Rattle.do_machine.specs.{declared.state.State.State, Context.around, State.{class_of, is_known}}
use Rattle.do_network.specs.Counting.{Classed, counted, item_classes, of_known, with_class}
use Rattle.do_network.specs.{Frames.{frame_of, item_of}, Own.{Own, class_kept}, Site.released_by}
use Rattle.do_network.specs.fits.Notes.{Note}
use Rattle.do_agreement.specs.InHand.{in_hand}
use Rattle.do_agreement.proofs.classes.ClassesTold.{AreRight, class_in, class_still, told_kept}
use Rattle.do_agreement.proofs.hands.InHandCounts.{gives_back}

-- the class of an object among those of what a node knows
known_class : (n : Node) (classes : ClassMap) (o : ObjectName) →
    class_in (of_known n classes) o ≡ cond (is_known n o) (class_in classes o) None
known_class n classes o =
    get-retain_keys classes (λ k. is_known n (object_of k)) (o.node, o.serial)
    (λ k tied. ap (λ (e : ℕ × ℕ). is_known n (object_of e))
    (sym (entry_same (o.node, o.serial) k tied)))

-- what an object's class is, where it has one
pub class_same : (S T : State) → ((o : ObjectName) (class : ClassId) →
    class_of S o ≡ Some class → class_of T o ≡ Some class) → (o : ObjectName) →
    is_some (class_of S o) ≡ true → class_of S o ≡ class_of T o
class_same S T still o some = go (class_of S o) refl some
  where
    go : (found : Option ClassId) → class_of S o ≡ found → is_some found ≡ true →
        class_of S o ≡ class_of T o
    go None e h = absurd (cc)
    go (Some c) e h = e ∙ sym (still o c e)

-- an object of which the right class is kept
abbrev pub IsClassed : State → ClassMap → ObjectName → Type 0
IsClassed S classes o =
    (class_in classes o ≡ class_of S o) × (is_some (class_of S o) ≡ true)

module _ (S T : State) (still : (o : ObjectName) (class : ClassId) →
    class_of S o ≡ Some class → class_of T o ≡ Some class) where
  -- the classes of a node that moved
  pub classes_moved : (p : Own) (e d : Effect) →
      ((o : ObjectName) → is_known e.node o ≡ true → IsClassed S p.classes o) →
      ((o : ObjectName) → is_known d.node o ≡ true → is_known e.node o ≡ true) →
      (o : ObjectName) →
      class_kept (counted (counted p e) d) o ≡ (around T d.node).class_of o
  classes_moved p e d classed less o =
      known_class d.node (of_known e.node p.classes) o
      ∙ ap (λ c. cond (is_known d.node o) c None) (known_class e.node p.classes o)
      ∙ go (is_known d.node o) refl
    where
      go : (b : Bool) → is_known d.node o ≡ b →
          cond b (cond (is_known e.node o) (class_in p.classes o) None) None
          ≡ (if b then class_of T o else None)
      go false h = refl
      go true h =
          let known = less o h in
          let is = classed o known in
          ap (λ b. cond b (class_in p.classes o) None) known
          ∙ is.0 ∙ class_same S T still o is.1

  -- the classes of a node that stays
  pub classes_stay_so : (p : Own) →
      ((o : ObjectName) → is_known p.node o ≡ true → is_some (class_of S o) ≡ true) →
      ((o : ObjectName) → class_kept p o ≡ (around S p.node).class_of o) →
      (o : ObjectName) → class_kept p o ≡ (around T p.node).class_of o
  classes_stay_so p some classes o = classes o ∙ go (is_known p.node o) refl
    where
      go : (b : Bool) → is_known p.node o ≡ b →
          (if b then class_of S o else None) ≡ (if b then class_of T o else None)
      go false h = refl
      go true h = class_same S T still o (some o h)

module _ (S : State) (p : Own)
    (some : (o : ObjectName) → is_known p.node o ≡ true → is_some (class_of S o) ≡ true)
    (classes : (o : ObjectName) → class_kept p o ≡ (around S p.node).class_of o) where
  -- of what a node knows the right class is kept
  pub known_classed : (o : ObjectName) → is_known p.node o ≡ true → IsClassed S p.classes o
  known_classed o h =
      (classes o ∙ ap (λ b. if b then class_of S o else None) h, some o h)

  -- and of nothing a wrong one
  kept_right : AreRight (class_of S) p.classes
  kept_right o h = go (is_known p.node o) refl (classes o) h
    where
      go : (b : Bool) → is_known p.node o ≡ b →
          class_in p.classes o ≡ (if b then class_of S o else None) →
          is_some (class_in p.classes o) ≡ true → class_in p.classes o ≡ class_of S o
      go true e k some = k
      go false e k some = absurd (no_class (ap is_some k) some)
        where
          no_class : {b : Bool} → b ≡ false → b ≡ true → ⊥
          no_class x y = cc

  -- an item and its frame tell the same classes
  classes_alike : (from amount : ℕ) (item : Item) →
      item_classes from (item_of (frame_of amount item)) ≡ item_classes from item
  classes_alike from amount (items.Call k m) = refl
  classes_alike from amount _ = refl

  module _ (from : ℕ) (x : Note)
      (told : AllByRecursion (λ y. class_of S y.object ≡ Some y.class) (item_classes from x.item))
    where
      -- the classes with the item in hand
      classes_in_hand : (in_hand from x p).classes
          ≡ fold with_class p.classes (item_classes from x.item)
      classes_in_hand =
          ap (λ ys. fold with_class (released_by from (frame_of x.amount x.item) p).classes ys)
          (classes_alike from x.amount x.item)
          ∙ ap (λ c. fold with_class c (item_classes from x.item))
          (gives_back from p x.amount x.item).classes

      -- of what the node knew the right class is kept
      pub known_in_hand : (o : ObjectName) → is_known p.node o ≡ true →
          IsClassed S (in_hand from x p).classes o
      known_in_hand o h =
          let was = known_classed o h in (
            ap (λ c. class_in c o) classes_in_hand
                ∙ class_still (class_of S) (item_classes from x.item) p.classes o was.1 was.0,
            was.1,
          )

      -- and of what the item tells
      pub told_in_hand : AllByRecursion (λ y. IsClassed S (in_hand from x p).classes y.object)
          (item_classes from (item_of (frame_of x.amount x.item)))
      told_in_hand =
          subst (AllByRecursion (λ y. IsClassed S (in_hand from x p).classes y.object))
          (sym (classes_alike from x.amount x.item))
          (subst (λ c. AllByRecursion (λ y. IsClassed S c y.object) (item_classes from x.item))
          (sym classes_in_hand)
          (both (item_classes from x.item) (fold with_class p.classes (item_classes from x.item))
          (told_kept (class_of S) (item_classes from x.item) p.classes kept_right told) told))
        where
          both : (ys : List Classed) (c : ClassMap) →
              AllByRecursion (λ y. class_in c y.object ≡ class_of S y.object) ys →
              AllByRecursion (λ y. class_of S y.object ≡ Some y.class) ys →
              AllByRecursion (λ y. IsClassed S c y.object) ys
          both [] c a b = tt
          both (y ∷ ys) c a b = ((a.0, ap is_some b.0), both ys c a.1 b.1)
