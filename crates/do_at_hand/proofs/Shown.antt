-- Values in which all objects pass a test.
use Rattle.std.proofs.Common.{◌≡◌, ◌∙◌, ◌++◌, ◌||◌, ℕ, ℤ, Bool, true, false, List as Listed, []}
use Rattle.std.proofs.Common.{◌∷◌, map, refl, sym, ap, subst, rules}
use Rattle.std.specs.{Prelude.Some, List.{AllByRecursion, Contains, flat_map}}
use Rattle.std.proofs.lemmas.List.Elements.{All-contains, All-from_recursion, All-weaker}
use Rattle.std.proofs.lemmas.List.Elements.{recursion_from_All}
use Rattle.do_base.specs.{names.Names.ObjectName, values.{Kinds.object, Values.objects_of}}
use Rattle.do_base.specs.declared.values.value.Value.{Value, List, the_lemmas}
use Rattle.do_base.specs.declared.values.value.Value.TheVariants.{Nil, Num, Text, Obj}
use Rattle.do_behave.specs.Answers.{NamesOnly}
use Rattle.do_packet.specs.Met.{has_object, same_object}
use Rattle.do_machine.{specs.held.Refers.objects_in, proofs.Bools.{or_left, or_right}}
use Rattle.do_facts.proofs.EachOfLists.{each_former, each_joined, each_latter, each_weaker}
use Rattle.do_facts.proofs.links.SameIsEqual.{object_is, object_itself}

pub none_in : objects_of Nil ≡ []
none_in = search (rules, the_lemmas)

pub number_in : (z : ℤ) → objects_of (Num z) ≡ []
number_in z = search (rules, the_lemmas)

pub text_in : (s : Listed ℕ) → objects_of (Text s) ≡ []
text_in s = search (rules, the_lemmas)

one_in : (o : ObjectName) → objects_of (Obj o) ≡ o ∷ []
one_in o = search (rules, the_lemmas)

items_in : (vs : Listed Value) → objects_of (List vs) ≡ flat_map (λ os. os) (map objects_of vs)
items_in vs = search (rules, the_lemmas)

joined : (vs : Listed Value)
    → flat_map (λ (os : Listed ObjectName). os) (map objects_of vs) ≡ objects_in vs
joined [] = refl
joined (v ∷ vs) = ap (λ os. objects_of v ++ os) (joined vs)

module _ (H : ObjectName → Bool) where
  -- an object passes
  abbrev pub Passes : ObjectName → Type 0
  Passes o = H o ≡ true

  -- each object of a list passes
  abbrev pub AllPass : Listed ObjectName → Type 0
  AllPass os = AllByRecursion Passes os

  -- each object in a value passes
  abbrev pub Names : Value → Type 0
  Names v = AllPass (objects_of v)

  -- so it is with values
  abbrev pub AllName : Listed Value → Type 0
  AllName vs = AllByRecursion Names vs

  -- a value without objects
  pub blank : (v : Value) → objects_of v ≡ [] → Names v
  blank v none = subst AllPass (sym none) tt

  -- nil
  pub nil : Names Nil
  nil = blank Nil none_in

  -- a number
  pub numbers : (z : ℤ) → Names (Num z)
  numbers z = blank (Num z) (number_in z)

  -- a text
  pub texts : (s : Listed ℕ) → Names (Text s)
  texts s = blank (Text s) (text_in s)

  -- an object
  pub one : (o : ObjectName) → H o ≡ true → Names (Obj o)
  one o h = subst AllPass (sym (one_in o)) (h, tt)

  -- the object that a value is
  pub of_object : (v : Value) (o : ObjectName) → Names v → object v ≡ Some o → H o ≡ true
  of_object v o h is = (subst AllPass (one_in o) (subst Names (value_is v o is) h)).0
    where
      value_is : (v : Value) (o : ObjectName) → object v ≡ Some o → v ≡ Obj o
      value_is v o is = search (rules, the_lemmas, is)

  -- the objects of values
  pub flat : (vs : Listed Value) → AllName vs → AllPass (objects_in vs)
  flat [] h = tt
  flat (v ∷ vs) h = each_joined Passes (objects_of v) (objects_in vs) h.0 (flat vs h.1)

  -- and back
  pub unflat : (vs : Listed Value) → AllPass (objects_in vs) → AllName vs
  unflat [] h = tt
  unflat (v ∷ vs) h = (
    each_former Passes (objects_of v) (objects_in vs) h,
    unflat vs (each_latter Passes (objects_of v) (objects_in vs) h),
  )

  -- a list of values
  pub items : (vs : Listed Value) → AllName vs → Names (List vs)
  items vs h = subst AllPass (sym (items_in vs ∙ joined vs)) (flat vs h)

  -- and back
  pub of_items : (vs : Listed Value) → Names (List vs) → AllName vs
  of_items vs h = unflat vs (subst AllPass (items_in vs ∙ joined vs) h)

  -- a value that names only objects that pass
  pub from_named : (named : Listed ObjectName) → AllPass named → (v : Value) →
      NamesOnly named v → Names v
  from_named named all v h =
      recursion_from_All Passes (objects_of v)
      (All-weaker (Contains named) Passes
      (λ o there. All-contains Passes named o (All-from_recursion Passes named all) there)
      (objects_of v) h)

  -- so it is with values
  pub all_from_named : (named : Listed ObjectName) → AllPass named → (vs : Listed Value) →
      AllByRecursion (NamesOnly named) vs → AllName vs
  all_from_named named all vs h = each_weaker (NamesOnly named) Names (from_named named all) vs h

  -- each that is among objects that pass passes
  pub of_among : (os : Listed ObjectName) → AllPass os → (o : ObjectName) →
      has_object os o ≡ true → H o ≡ true
  of_among [] h o e = absurd (cc)
  of_among (x ∷ os) h o e = go (same_object o x) refl (of_among os h.1 o) e
    where
      go : (b : Bool) → same_object o x ≡ b → (has_object os o ≡ true → H o ≡ true) →
          (b || has_object os o) ≡ true → H o ≡ true
      go true q rest k = subst Passes (sym (object_is o x q)) h.0
      go false q rest k = rest k

  -- and back
  pub from_among : (os : Listed ObjectName) →
      ((o : ObjectName) → has_object os o ≡ true → H o ≡ true) → AllPass os
  from_among [] h = tt
  from_among (x ∷ os) h = (
    h x (or_left (same_object x x) (has_object os x) (object_itself x)),
    from_among os (λ o e. h o (or_right (same_object o x) (has_object os o) e)),
  )

-- what passes a test passes a weaker one
pub weaker : (H K : ObjectName → Bool) → ((o : ObjectName) → H o ≡ true → K o ≡ true) →
    (vs : Listed Value) → AllName H vs → AllName K vs
weaker H K f vs h =
    each_weaker (Names H) (Names K)
    (λ v. each_weaker (Passes H) (Passes K) f (objects_of v)) vs h
