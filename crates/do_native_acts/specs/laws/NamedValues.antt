-- Values that name no objects but those which an invocation and the slots name.
use Rattle.std.proofs.Common.{◌≡◌, ℕ, ℤ, List as Listed, [], ◌∷◌, Option, Some, map, sym, subst}
use Rattle.std.proofs.Common.{rules}
use Rattle.std.specs.{List.{All, AllByRecursion, Contains, flat_map}, Option.IfSome}
use Rattle.std.proofs.lemmas.List.Elements.{All-nil, All-cons, All-head, All-tail, All-map}
use Rattle.std.proofs.lemmas.List.Elements.{All-weaker, All-from_recursion, recursion_from_All}
use Rattle.do_base.specs.{names.Names.ObjectName, values.{Kinds.object, Values.objects_of}}
use Rattle.do_base.specs.declared.values.value.Value.{Value, List, the_lemmas}
use Rattle.do_base.specs.declared.values.value.Value.TheVariants.{Nil, Num, Text, Obj}
use Rattle.do_behave.specs.{Answers.{NamesOnly, objects_named}, Steps.local}
use Rattle.do_behave.specs.declared.invocation.Invocation.{Invocation}
use Rattle.do_behave.specs.laws.CodeSuits.{All-first, All-second}
use Rattle.do_behave.specs.laws.{ObjectsKept.{arguments_among, objects_kept}, Sound.get_kept}
use Rattle.do_grammar.specs.Words.{◌>>?◌}
use Rattle.do_native_acts.specs.{Rows.listed, laws.KeptLaws.{each_holds, kept_flat}}
use Rattle.do_native_acts.specs.laws.KindLaws.{found_of, object_read}

-- the objects of a list are those of its items
objects_of_List : (vs : Listed Value)
    → objects_of (List vs) ≡ flat_map (λ os. os) (map objects_of vs)
objects_of_List vs = search (rules, the_lemmas)

module _ (inv : Invocation) (slots : Listed Value) where
  -- a value that names only objects which the invocation and the slots name
  abbrev pub Named : Value → Type 0
  Named v = NamesOnly (objects_named inv slots) v

  -- nil names no object
  pub nil_named : Named Nil
  nil_named = (objects_kept inv slots).nil

  -- and a number none
  pub number_named : (z : ℤ) → Named (Num z)
  number_named = (objects_kept inv slots).number

  -- and a text none
  pub text_named : (s : Listed ℕ) → Named (Text s)
  text_named s = (objects_kept inv slots).text s tt

  -- the own object may be named
  pub own_named : Named (Obj inv.object)
  own_named = (objects_kept inv slots).own

  -- what each local holds may be named
  pub locals_named : All Named inv.locals
  locals_named = All-first Named inv.locals slots (arguments_among inv slots)

  -- and what each slot holds
  pub slots_named : All Named slots
  slots_named = All-second Named inv.locals slots (arguments_among inv slots)

  -- and so what one local holds
  pub local_named : (k : ℕ) → IfSome (local inv k) Named
  local_named k = get_kept Named inv.locals k locals_named

  -- the objects of values that may be named stand among those named
  objects_among : (vs : Listed Value) → All Named vs
      → All (Contains (objects_named inv slots))
      (flat_map (λ (os : Listed ObjectName). os) (map objects_of vs))
  objects_among vs all =
      let named = Contains (objects_named inv slots) in
      kept_flat (All named) named (λ os. os) (λ os it. it) (map objects_of vs)
      (All-map (All named) objects_of vs all)

  -- a list names what its items name
  pub list_named : (vs : Listed Value) → All Named vs → Named (List vs)
  list_named vs all =
      subst (All (Contains (objects_named inv slots))) (sym (objects_of_List vs))
      (objects_among vs all)

  -- and so does a list as a slot keeps it
  pub listed_named : (vs : Listed Value) → All Named vs → Named (listed vs)
  listed_named [] all = nil_named
  listed_named (v ∷ vs) all = list_named (v ∷ vs) all

  -- the objects of values that stand among those named are named by values that may be
  each_among : (vs : Listed Value)
      → All (Contains (objects_named inv slots))
      (flat_map (λ (os : Listed ObjectName). os) (map objects_of vs)) → All Named vs
  each_among [] all = All-nil Named
  each_among (v ∷ vs) all =
      let more = flat_map (λ (os : Listed ObjectName). os) (map objects_of vs) in
      All-cons Named v vs (All-first (Contains (objects_named inv slots)) (objects_of v) more all)
      (each_among vs (All-second (Contains (objects_named inv slots)) (objects_of v) more all))

  -- the items of a list name what it names
  pub items_named : (vs : Listed Value) → Named (List vs) → All Named vs
  items_named vs named =
      each_among vs (subst (All (Contains (objects_named inv slots))) (objects_of_List vs) named)

  -- and so do those of a list as a slot keeps it
  pub listed_items_named : (vs : Listed Value) → Named (listed vs) → All Named vs
  listed_items_named [] named = All-nil Named
  listed_items_named (v ∷ vs) named = items_named (v ∷ vs) named

  -- values that may each be named may all be named
  pub each_named : {A : Type 0} (value : A → Value) → ((x : A) → Named (value x)) → (xs : Listed A)
      → All Named (map value xs)
  each_named value each xs = All-map Named value xs (each_holds (λ x. Named (value x)) each xs)

  -- rows of which none names anything else, as a slot keeps them
  pub rows_named : {A : Type 0} (value : A → Value) → ((x : A) → Named (value x))
      → (xs : Listed A) → Named (listed (map value xs))
  rows_named value each xs = listed_named (map value xs) (each_named value each xs)

  -- each of these values may be named
  abbrev pub EachNamed : Listed Value → Type 0
  EachNamed vs = AllByRecursion Named vs

  -- a list may be named where each of its parts may
  pub list_of_parts : (vs : Listed Value) → EachNamed vs → Named (List vs)
  list_of_parts vs each = list_named vs (All-from_recursion Named vs each)

  -- and each of its parts where the list may
  pub parts_of_list : (vs : Listed Value) → Named (List vs) → EachNamed vs
  parts_of_list vs named = recursion_from_All Named vs (items_named vs named)

  module _ {A : Type 0} (row : A → Value) (P : A → Type 0) where
    -- what holds of each whose row may be named holds of all whose rows may
    pub rows_from : ((x : A) → Named (row x) → P x) → (xs : Listed A)
        → All Named (map row xs) → All P xs
    rows_from each [] all = All-nil P
    rows_from each (x ∷ xs) all =
        All-cons P x xs (each x (All-head Named (row x) (map row xs) all))
        (rows_from each xs (All-tail Named (row x) (map row xs) all))

    -- and so of rows as a slot keeps them
    pub slot_from : ((x : A) → Named (row x) → P x) → (xs : Listed A)
        → Named (listed (map row xs)) → All P xs
    slot_from each xs named = rows_from each xs (listed_items_named (map row xs) named)

    -- rows may be named of which each may
    pub rows_to : ((x : A) → P x → Named (row x)) → (xs : Listed A) → All P xs
        → All Named (map row xs)
    rows_to each xs all =
        All-map Named row xs (All-weaker P (λ x. Named (row x)) each xs all)

    -- and so may they as a slot keeps them
    pub slot_to : ((x : A) → P x → Named (row x)) → (xs : Listed A) → All P xs
        → Named (listed (map row xs))
    slot_to each xs all = listed_named (map row xs) (rows_to each xs all)

  -- what holds of a core whose slots may be named holds of the core that the slots are read as
  pub core_read : {Core : Type 0} (from : Listed Value → Option Core) (to : Core → Listed Value)
      (P : Core → Type 0) → ((core : Core) → from slots ≡ Some core → to core ≡ slots)
      → ((core : Core) → EachNamed (to core) → P core)
      → (core : Core) → from slots ≡ Some core → P core
  core_read from to P back each core is =
      each core (recursion_from_All Named (to core)
      (subst (All Named) (sym (back core is)) slots_named))

  -- an object that may be named
  abbrev pub NamedObject : ObjectName → Type 0
  NamedObject o = Named (Obj o)

  -- what a local holds may be named
  pub local_found : (k : ℕ) (v : Value) → local inv k ≡ Some v → Named v
  local_found k v is = subst (λ o. IfSome o Named) is (local_named k)

  -- and so may the object that it holds
  pub local_object : (k : ℕ) (o : ObjectName) → (local inv k >>? object) ≡ Some o → NamedObject o
  local_object k o is =
      let v = found_of (local inv k) object o is in
      subst Named (sym (object_read v.0 o v.2)) (local_found k v.0 v.1)
