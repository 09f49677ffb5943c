-- The classes that a site keeps are of the table, each of an object that has a serial and a port.
use Rattle.do_machine.specs.declared.item.Item.TheVariants as items
use Rattle.std.specs.FinMap as map_of
use Rattle.std.proofs.Common.{Bool, List, [], ap, cond, false, fold, refl, subst, sym, true, ℕ, ◌∙◌}
use Rattle.std.{proofs.Common.{◌∷◌, ◌≡◌}, specs.FinMap.{get-empty, get-insert, get-retain_keys}}
use Rattle.std.specs.{List.{AllByRecursion, filter_map}, Ordering.{eq_by_cmp, is_eq}}
use Rattle.std.specs.{Prelude.{None, Some}, declared.cmp.Ordering.Ordering}
use Rattle.std.specs.declared.cmp.Ordering.TheVariants.{Equal, Greater, Less}
use Rattle.do_base.specs.names.Names.{ObjectName}
use Rattle.do_class.specs.{Class.Class, declared.{ids.ClassId.ClassId, packet.Name.Name}}
use Rattle.do_class.specs.declared.packet.Name.TheVariants.{Lent, Mine, Yours}
use Rattle.do_sched.specs.Good.{IsPort}
use Rattle.do_export.{proofs.Order.{entry_same, entry_total}, specs.Counts.entry_cmp}
use Rattle.do_import.specs.ByObject.{ClassMap, object_of}
use Rattle.do_machine.specs.{State.is_known, declared.{item.Item.Item, node.Node.Node}}
use Rattle.do_network.specs.Counting.{Classed, classed_name, item_classes, of_known, with_class}
use Rattle.do_limits.specs.{Sendable.NameIsSendable, SendableStates.ItemIsReadable}
use Rattle.do_bounds.specs.Bounds.{ClassStands}

-- so it is with each class that is kept
abbrev pub ClassesStand : List Class → ClassMap → Type 0
ClassesStand table classes = (o : ObjectName) (class : ClassId) →
    map_of.get classes (o.node, o.serial) ≡ Some class → ClassStands table o class

-- no class is kept at first
pub none_kept : (table : List Class) → ClassesStand table map_of.empty
none_kept table o class e =
    let none : None ≡ Some class = sym (get-empty entry_cmp (o.node, o.serial)) ∙ e in
    absurd (cc (none))

-- those of objects that are known
pub known_kept : (table : List Class) (n : Node) (classes : ClassMap) → ClassesStand table classes →
    ClassesStand table (of_known n classes)
known_kept table n classes h o class e =
    go (is_known n o)
    (sym (get-retain_keys classes (λ k. is_known n (object_of k)) (o.node, o.serial)
    (λ k tied. ap (λ (x : ℕ × ℕ). is_known n (object_of x))
    (sym (entry_same (o.node, o.serial) k tied)))) ∙ e)
  where
    go : (b : Bool) → cond b (map_of.get classes (o.node, o.serial)) None ≡ Some class →
        ClassStands table o class
    go true k = h o class k
    go false k = absurd (cc (k))

-- what is equal by its test is so
is_equal : (r : Ordering) → is_eq r ≡ true → r ≡ Equal
is_equal Less e = absurd (cc (e))
is_equal Equal e = refl
is_equal Greater e = absurd (cc (e))

module _ (table : List Class) where
  -- those with one more
  one_kept : (classes : ClassMap) (x : Classed) → ClassStands table x.object x.class →
      ClassesStand table classes → ClassesStand table (with_class classes x)
  one_kept classes x stands h o class e = go (map_of.contains_key classes other) e
    where
      other : ℕ × ℕ
      other = (x.object.node, x.object.serial)

      by : (b : Bool) → eq_by_cmp entry_cmp (o.node, o.serial) other ≡ b →
          cond b (Some x.class) (map_of.get classes (o.node, o.serial)) ≡ Some class →
          ClassStands table o class
      by true tied k =
          let same : (o.node, o.serial) ≡ other =
          entry_same (o.node, o.serial) other (is_equal _ tied) in
          let it : x.class ≡ class = cc (k) in
          subst (λ z. ClassStands table o z) it
          (subst (λ (p : ℕ × ℕ). ClassStands table (object_of p) x.class) (sym same) stands)
      by false apart k = h o class k

      go : (b : Bool) →
          map_of.get (cond b classes (map_of.insert classes other x.class)) (o.node, o.serial)
          ≡ Some class → ClassStands table o class
      go true k = h o class k
      go false k =
          by (eq_by_cmp entry_cmp (o.node, o.serial) other) refl
          (sym (get-insert entry_total classes other x.class (o.node, o.serial)) ∙ k)

  -- those with more
  pub more_kept : (xs : List Classed) (classes : ClassMap) →
      AllByRecursion (λ x. ClassStands table x.object x.class) xs → ClassesStand table classes →
      ClassesStand table (fold with_class classes xs)
  more_kept [] classes told h = h
  more_kept (x ∷ xs) classes told h =
      more_kept xs (with_class classes x) told.1 (one_kept classes x told.0 h)

  module _ (from to : ℕ) (at_from : IsPort from) where
    -- what a message tells of classes stands
    abbrev Tells : List Classed → Type 0
    Tells xs = AllByRecursion (λ x. ClassStands table x.object x.class) xs

    -- the names of a message
    names_tell : (xs : List Name) → AllByRecursion (NameIsSendable table from to) xs →
        Tells (filter_map (classed_name from) xs)
    names_tell [] h = tt
    names_tell (Mine serial class ∷ xs) h =
        ((h.0.1, (h.0.0, at_from)), names_tell xs h.1)
    names_tell (Yours serial ∷ xs) h = names_tell xs h.1
    names_tell (Lent o class token ∷ xs) h =
        ((h.0.1.1.0, (h.0.1.0, (h.0.0.at_least, h.0.0.at_most))), names_tell xs h.1)

    -- an item
    pub item_tells : (item : Item) → ItemIsReadable table from to item →
        Tells (item_classes from item)
    item_tells (items.Call number m) h = names_tell m.packet.names h.packet.names
    item_tells (items.Oneway m) h = names_tell m.packet.names h.packet.names
    item_tells (items.Reply number packet) h = names_tell packet.names h.names
    item_tells (items.RootAnswer number packet) h = names_tell packet.names h.names
    item_tells (items.Raised number e) h = tt
    item_tells (items.RootAsk number) h = tt
    item_tells (items.Ask serial token) h = tt
    item_tells (items.Granted serial token) h = tt
    item_tells (items.Gone serial token) h = tt
    item_tells (items.Left serial) h = tt
    item_tells (items.Settled number) h = tt
    item_tells (items.End serials) h = tt
