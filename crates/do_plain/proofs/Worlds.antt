-- The classes of a world that is read have names, and so have their slots.
use Rattle.do_class_kinds.specs.declared.kind.Kind.TheVariants as kinds
use Rattle.do_document.specs.declared.place.Place.TheVariants as at
use Rattle.std.proofs.Common.{◌≡◌, ◌&&◌, ◌-◌, ℕ, Bool, true, false, cond, drop, length, List, []}
use Rattle.std.{proofs.Common.{◌∷◌, refl, subst, take}, specs.Prelude.{None, Option, Some, codes}}
use Rattle.std.specs.{Prelude.{is_some, not, option_and_then}, List.{AllByRecursion, cons_option}}
use Rattle.std.specs.{List.filter_map, Option.{option_map, option_map_or, option_or}, Str.bytes_eq}
use Rattle.toml.specs.Data.{Data, Members, as_str, get_member}
use Rattle.do_class.specs.{Class.Class, Table.class_named, declared.ids.Slot.Slot}
use Rattle.do_class_kinds.specs.declared.kind.Kind.{Kind}
use Rattle.do_document.specs.Checks.{first_behind, is_text_with, misfit, missing, required, unknown}
use Rattle.do_document.specs.Checks.{wrong_unless}
use Rattle.do_document.specs.ClassFaults.{class_checks, class_fault, class_keys, is_new_name}
use Rattle.do_document.specs.Classes.{class_by, class_of, classes_in, kind_of, slot_named, slot_of}
use Rattle.do_document.specs.{Classes.{methods_by, slots_by, slots_in}, Document.tables_at}
use Rattle.do_document.specs.{Document.{text_at, texts_at}, Paths.path, declared.place.Place.Place}
use Rattle.do_document.specs.declared.fault.WorldFault.{WorldFault, TheVariants.Toml}
use Rattle.do_grammar.specs.Names.{is_name}
use Rattle.do_world.specs.{Builtin.builtin_world, Counter.{counter_classes, counter_world}}
use Rattle.do_world.specs.{Faults.fault_of, Mesh.{mesh_classes, mesh_world}}
use Rattle.do_world.specs.{Reading.{IsWorldText, document, first_fault, world_in}, Worlds.world_of}
use Rattle.do_world.specs.declared.world.World.{World}
use Rattle.do_plain.specs.Named.{AreNamed, IsNamed, IsNamedSlot}

-- ---- faults

-- where none of two is there, the first is not
none_first : (a b : Option WorldFault) → option_or a b ≡ None → a ≡ None
none_first None b e = refl
none_first (Some f) b e = e

-- nor is the second
none_second : (a b : Option WorldFault) → option_or a b ≡ None → b ≡ None
none_second None b e = e
none_second (Some f) b e = absurd (cc (e))

-- where members have no fault, each has none behind some of them
each_good : {A : Type 0} (check : List A → A → Option WorldFault) (before xs : List A) →
    first_behind check before xs ≡ None →
    AllByRecursion (λ x. (b : List A) × (check b x ≡ None)) xs
each_good check before [] e = tt
each_good check before (x ∷ xs) e = (
  (before, none_first (check before x) _ e),
  each_good check _ xs (none_second (check before x) _ e),
)

-- a test that is not failed is passed
right_passes : (b : Bool) (at : List ℕ) → wrong_unless b at ≡ None → b ≡ true
right_passes true at e = refl
right_passes false at e = absurd (cc (e))

-- a text that must pass a test, and has no fault, passes it
text_passes : (place : Place) (key : List ℕ) (test : List ℕ → Bool) (t : Members) (s : List ℕ) →
    required place key (is_text_with test) t ≡ None → text_at key t ≡ Some s → test s ≡ true
unfolding required misfit text_at
text_passes place key test t s none there =
    by (get_member key t)
    (none_second (missing place key t) (misfit place key (is_text_with test) t) none) there
  where
    of_text : (found : Option (List ℕ)) → option_map_or test found false ≡ true →
        found ≡ Some s → test s ≡ true
    of_text None passes is = absurd (cc (is))
    of_text (Some r) passes is =
        let same : r ≡ s = cc (is) in subst (λ u. test u ≡ true) same passes

    by : (found : Option Data) →
        option_and_then (λ d. wrong_unless (is_text_with test d) (path place key)) found ≡ None →
        option_and_then as_str found ≡ Some s → test s ≡ true
    by None good is = absurd (cc (is))
    by (Some d) good is =
        of_text (as_str d) (right_passes (is_text_with test d) (path place key) good) is

-- ---- classes

-- both hold, so the first does
first_holds : (a b : Bool) → (a && b) ≡ true → a ≡ true
first_holds true b e = refl
first_holds false b e = absurd (cc (e))

-- what is made of elements has what follows from theirs
each_made : {X Y : Type 0} (P : X → Type 0) (Q : Y → Type 0) (f : X → Option Y) →
    ((x : X) → P x → (y : Y) → f x ≡ Some y → Q y) → (xs : List X) → AllByRecursion P xs →
    AllByRecursion Q (filter_map f xs)
each_made P Q f g [] h = tt
each_made {Y = Y} P Q f g (x ∷ xs) h = go (f x) refl (each_made P Q f g xs h.1)
  where
    go : (o : Option Y) → f x ≡ o → AllByRecursion Q (filter_map f xs) →
        AllByRecursion Q (cons_option o (filter_map f xs))
    go None e k = k
    go (Some y) e k = (g x h.0 y e, k)

-- all texts have what each has
each_text : {X : Type 0} (xs : List X) → AllByRecursion (λ x. Unit {0}) xs
each_text [] = tt
each_text (x ∷ xs) = (tt, each_text xs)

-- the slot of a text has a name
slot_has : (text : List ℕ) (s : Slot) → slot_of text ≡ Some s → IsNamedSlot s
slot_has text s e = by (bytes_eq (drop (length text - 5) text) (codes " copy")) e
  where
    named : (copy : Bool) (name : List ℕ) → slot_named copy name ≡ Some s → IsNamedSlot s
    named copy name q = go (is_name name) refl q
      where
        go : (b : Bool) → is_name name ≡ b →
            cond b (Some (record { name = name; copy = copy })) None ≡ Some s → IsNamedSlot s
        go true is r =
            let same : record { name = name; copy = copy } ≡ s = cc (r) in
            subst IsNamedSlot same is
        go false is r = absurd (cc (r))

    by : (b : Bool) →
        cond b (slot_named true (take (length text - 5) text)) (slot_named false text) ≡ Some s →
        IsNamedSlot s
    by true q = named true (take (length text - 5) text) q
    by false q = named false text q

-- the slots of a class have
slots_have : (kind : Kind) (t : Members) → AllByRecursion IsNamedSlot (slots_by kind t)
unfolding slots_in is_name
slots_have kinds.Script t =
    each_made (λ text. Unit {0}) IsNamedSlot slot_of (λ text u s e. slot_has text s e)
    (texts_at (codes "slots") t) (each_text (texts_at (codes "slots") t))
slots_have kinds.Names t = (refl, tt)
slots_have kinds.Pasteboard t = (refl, (refl, (refl, (refl, (refl, tt)))))
slots_have kinds.Services t = (refl, tt)
slots_have kinds.Center t = (refl, (refl, (refl, tt)))
slots_have kinds.Checker t = (refl, tt)

-- the name of a class whose checks find no fault is a name
name_good : (k : ℕ) (classes : List Class) (t : Members) → class_checks k classes t ≡ None →
    (s : List ℕ) → text_at (codes "name") t ≡ Some s → is_name s ≡ true
unfolding class_checks
name_good k classes t none s there =
    first_holds (is_name s) (not (is_some (class_named classes s)))
    (text_passes (at.Class k) (codes "name") (is_new_name classes) t s
    (none_first (required (at.Class k) (codes "name") (is_text_with (is_new_name classes)) t) _
    (none_second (unknown (at.Class k) class_keys t) _ none)) there)

-- a class of a table has a name, where its checks find no fault
class_has : (before : List Members) (t : Members) → class_fault before t ≡ None → (c : Class) →
    class_of t ≡ Some c → IsNamed c
class_has before t none c is = by (kind_of t) is
  where
    by_name : (kind : Kind) (found : Option (List ℕ)) → text_at (codes "name") t ≡ found →
        option_map (λ name. record {
          name = name;
          slots = slots_by kind t;
          methods = methods_by kind t;
        }) found ≡ Some c → IsNamed c
    by_name kind None there q = absurd (cc (q))
    by_name kind (Some name) there q =
        let made : Class = record {
          name = name;
          slots = slots_by kind t;
          methods = methods_by kind t;
        } in
        let same : made ≡ c = cc (q) in
        subst IsNamed same (record {
          name = name_good (length before) (filter_map class_of before) t none name there;
          slots = slots_have kind t;
        })

    by : (kind : Option Kind) → option_and_then (class_by t) kind ≡ Some c → IsNamed c
    by None q = absurd (cc (q))
    by (Some kind) q = by_name kind (text_at (codes "name") t) refl q

-- ---- worlds

-- the classes of a document without a fault have names
document_has : (d : Members) → fault_of d ≡ None → AreNamed (classes_in d)
unfolding classes_in
document_has d none =
    each_made (λ t. (b : List Members) × (class_fault b t ≡ None)) IsNamed class_of
    (λ t h c e. class_has h.0 t h.1 c e) (tables_at (codes "class") d)
    (each_good class_fault [] (tables_at (codes "class") d)
    (none_first _ _ (none_second _ _ none)))

-- so have those of the world that a text says
pub text_has : (bytes : List ℕ) (world : World) → IsWorldText bytes world → AreNamed world.table
unfolding first_fault world_in
text_has bytes world is = by (document bytes) is.good is.says
  where
    by : (found : Option Members) → option_map_or fault_of found (Some Toml) ≡ None →
        option_map world_of found ≡ Some world → AreNamed world.table
    by None good says = absurd (cc (says))
    by (Some d) good says =
        let same : world_of d ≡ world = cc (says) in
        subst (λ (w : World). AreNamed w.table) same (document_has d good)

-- those of the counter world have
counter_has : AreNamed counter_classes
unfolding is_name
counter_has =
    (record { name = refl; slots = (refl, tt) }, (record { name = refl; slots = tt }, tt))

-- and those of the mesh
mesh_has : AreNamed mesh_classes
unfolding is_name
mesh_has = (
  record { name = refl; slots = (refl, tt) },
  (record { name = refl; slots = (refl, (refl, tt)) }, tt),
)

-- and so have those of each built-in world
pub builtin_has : (word : List ℕ) (world : World) → builtin_world word ≡ Some world →
    AreNamed world.table
unfolding builtin_world
builtin_has word world e = by (bytes_eq word (codes ":counter")) (bytes_eq word (codes ":mesh")) e
  where
    by : (a b : Bool) → cond a (Some counter_world) (cond b (Some mesh_world) None) ≡ Some world →
        AreNamed world.table
    by true b q =
        let same : counter_world ≡ world = cc (q) in
        subst (λ (w : World). AreNamed w.table) same counter_has
    by false true q =
        let same : mesh_world ≡ world = cc (q) in
        subst (λ (w : World). AreNamed w.table) same mesh_has
    by false false q = absurd (cc (q))
