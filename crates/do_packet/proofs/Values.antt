-- The objects and the part of each kind of value.
use Rattle.do_class.specs.declared.packet.Part.TheVariants as part
use Rattle.std.proofs.Common.{◌≡◌, ℕ, ℤ, Bool, List as Listed, [], ◌∷◌, ◌++◌, map, filter, refl, ap}
use Rattle.std.{proofs.Common.{◌∙◌, rules}, specs.List.flat_map}
use Rattle.std.proofs.lemmas.List.Elements.{filter-append}
use Rattle.do_base.specs.{names.Names.ObjectName, values.Values.objects_of}
use Rattle.do_base.specs.declared.values.value.Value.{Value, List, the_lemmas}
use Rattle.do_base.specs.declared.values.value.Value.TheVariants.{Nil, Num, Text, Obj}
use Rattle.do_class.specs.declared.packet.Part.{List as Parts, Part}
use Rattle.do_packet.specs.Met.{role_of, copied_in, named_in, is_copied, is_named}
use Rattle.do_packet.specs.{Parts.{object_part, part_of}, Seen.Seen}

-- nil has no objects
pub objects_of-Nil : objects_of Nil ≡ []
objects_of-Nil = search (rules, the_lemmas)

-- a number has none
pub objects_of-Num : (n : ℤ) → objects_of (Num n) ≡ []
objects_of-Num n = search (rules, the_lemmas)

-- a text has none
pub objects_of-Text : (s : Listed ℕ) → objects_of (Text s) ≡ []
objects_of-Text s = search (rules, the_lemmas)

-- an object has itself
pub objects_of-Obj : (o : ObjectName) → objects_of (Obj o) ≡ o ∷ []
objects_of-Obj o = search (rules, the_lemmas)

-- a list has those of its items
pub objects_of-List : (vs : Listed Value) →
    objects_of (List vs) ≡ flat_map (λ os. os) (map objects_of vs)
objects_of-List vs = search (rules, the_lemmas)

module _ (seen : Seen) (from : ℕ) (copy : Bool) (copies names : Listed ObjectName) where
  -- the part of a value in a place that is bycopy or not
  abbrev part_for : Value → Part
  part_for = part_of seen from copy copies names

  -- the part of nil
  pub part_of-Nil : part_for Nil ≡ part.Nil
  part_of-Nil = search (rules, the_lemmas)

  -- the part of a number
  pub part_of-Num : (n : ℤ) → part_for (Num n) ≡ part.Num n
  part_of-Num n = search (rules, the_lemmas)

  -- the part of a text
  pub part_of-Text : (s : Listed ℕ) → part_for (Text s) ≡ part.Text s
  part_of-Text s = search (rules, the_lemmas)

  -- the part of an object
  pub part_of-Obj : (o : ObjectName) →
      part_for (Obj o) ≡ object_part (role_of seen from copy o) copies names o
  part_of-Obj o = search (rules, the_lemmas)

  -- the part of a list
  pub part_of-List : (vs : Listed Value) → part_for (List vs) ≡ Parts (map part_for vs)
  part_of-List vs = search (rules, the_lemmas)

-- the objects in items that pass a test
filter_each : (p : ObjectName → Bool) (vs : Listed Value) →
    filter p (flat_map (λ os. os) (map objects_of vs)) ≡ flat_map (λ v. filter p (objects_of v)) vs
filter_each p [] = refl
filter_each p (v ∷ vs) =
    filter-append p (objects_of v) (flat_map (λ os. os) (map objects_of vs))
    ∙ ap (λ l. filter p (objects_of v) ++ l) (filter_each p vs)

-- the copied objects of a list are those of its items
pub copied_in-List : (seen : Seen) (from : ℕ) (copy : Bool) (vs : Listed Value) →
    copied_in seen from copy (List vs) ≡ flat_map (copied_in seen from copy) vs
copied_in-List seen from copy vs =
    let test = λ (o : ObjectName). is_copied (role_of seen from copy o) in
    ap (filter test) (objects_of-List vs) ∙ filter_each test vs

-- the named objects of a list are those of its items
pub named_in-List : (seen : Seen) (from : ℕ) (copy : Bool) (vs : Listed Value) →
    named_in seen from copy (List vs) ≡ flat_map (named_in seen from copy) vs
named_in-List seen from copy vs =
    let test = λ (o : ObjectName). is_named (role_of seen from copy o) in
    ap (filter test) (objects_of-List vs) ∙ filter_each test vs
