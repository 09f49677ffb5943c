-- A value is what was read from it, and what it is made of is read from it.
use Rattle.std.proofs.Common.{◌≡◌, ◌∙◌, ℕ, ℤ, List as Listed, Option, Some, None, refl, sym, ap}
use Rattle.std.proofs.Common.{rules, Bool, true, false, subst}
use Rattle.std.specs.{Prelude.if◌then◌else◌, Option.option_map}
use Rattle.do_grammar.specs.Words.{◌>>?◌}
use Rattle.do_base.specs.{names.Names.ObjectName, values.Induction.value_induction}
use Rattle.do_base.specs.values.Kinds.{text, number, object, items}
use Rattle.do_base.specs.declared.values.value.Value.{Value, List, the_lemmas}
use Rattle.do_base.specs.declared.values.value.Value.TheVariants.{Nil, Num, Text, Obj}
use Rattle.do_behave.specs.laws.ValueKinds.{by_text, by_items}

-- what two answers hold that are the same is the same
pub some_same : {A : Type 0} {x y : A} → Some x ≡ Some y → x ≡ y
some_same e = cc

-- the bytes of a text are read from it
pub text_of_Text : (s : Listed ℕ) → text (Text s) ≡ Some s
text_of_Text s = search (rules, the_lemmas)

-- a number is read from itself
pub number_of_Num : (z : ℤ) → number (Num z) ≡ Some z
number_of_Num z = search (rules, the_lemmas)

-- an object is read from itself
pub object_of_Obj : (o : ObjectName) → object (Obj o) ≡ Some o
object_of_Obj o = search (rules, the_lemmas)

-- the items of a list are read from it
pub items_of_List : (vs : Listed Value) → items (List vs) ≡ Some vs
items_of_List vs = search (rules, the_lemmas)

-- a value whose text is read is that text
pub text_read : (v : Value) (s : Listed ℕ) → text v ≡ Some s → Text s ≡ v
text_read =
    by_text (λ o v. (s : Listed ℕ) → o ≡ Some s → Text s ≡ v) (λ v s e. cc)
    (λ t s e. ap Text (sym (some_same e)))

-- a value whose items are read is their list
pub items_read : (v : Value) (vs : Listed Value) → items v ≡ Some vs → List vs ≡ v
items_read =
    by_items (λ o v. (vs : Listed Value) → o ≡ Some vs → List vs ≡ v) (λ v vs e. cc)
    (λ ws vs e. ap List (sym (some_same e)))

-- nil is no number
no_number_of_Nil : number Nil ≡ None
no_number_of_Nil = search (rules, the_lemmas)

-- nor is a text
no_number_of_Text : (s : Listed ℕ) → number (Text s) ≡ None
no_number_of_Text s = search (rules, the_lemmas)

-- nor an object
no_number_of_Obj : (o : ObjectName) → number (Obj o) ≡ None
no_number_of_Obj o = search (rules, the_lemmas)

-- nor a list
no_number_of_List : (vs : Listed Value) → number (List vs) ≡ None
no_number_of_List vs = search (rules, the_lemmas)

-- a value whose number is read is that number
pub number_read : (v : Value) (z : ℤ) → number v ≡ Some z → Num z ≡ v
number_read =
    value_induction (λ v. (z : ℤ) → number v ≡ Some z → Num z ≡ v)
    (λ z e. cc (e, no_number_of_Nil))
    (λ y z e. ap Num (sym (some_same (sym (number_of_Num y) ∙ e))))
    (λ s z e. cc (e, no_number_of_Text s))
    (λ o z e. cc (e, no_number_of_Obj o))
    (λ vs _ z e. cc (e, no_number_of_List vs))

-- nil is no object
no_object_of_Nil : object Nil ≡ None
no_object_of_Nil = search (rules, the_lemmas)

-- nor is a number
no_object_of_Num : (z : ℤ) → object (Num z) ≡ None
no_object_of_Num z = search (rules, the_lemmas)

-- nor a text
no_object_of_Text : (s : Listed ℕ) → object (Text s) ≡ None
no_object_of_Text s = search (rules, the_lemmas)

-- nor a list
no_object_of_List : (vs : Listed Value) → object (List vs) ≡ None
no_object_of_List vs = search (rules, the_lemmas)

-- a value whose object is read is that object
pub object_read : (v : Value) (o : ObjectName) → object v ≡ Some o → Obj o ≡ v
object_read =
    value_induction (λ v. (o : ObjectName) → object v ≡ Some o → Obj o ≡ v)
    (λ o e. cc (e, no_object_of_Nil))
    (λ z o e. cc (e, no_object_of_Num z))
    (λ s o e. cc (e, no_object_of_Text s))
    (λ p o e. ap Obj (sym (some_same (sym (object_of_Obj p) ∙ e))))
    (λ vs _ o e. cc (e, no_object_of_List vs))

-- what is found leads to what is found of it
pub found_of : {A B : Type 0} (o : Option A) (f : A → Option B) (b : B) → (o >>? f) ≡ Some b
    → (a : A) × (o ≡ Some a) × (f a ≡ Some b)
found_of None f b e = cc
found_of (Some a) f b e = (a, refl, e)

-- what is mapped is found
pub mapped_of : {A B : Type 0} (f : A → B) (o : Option A) (b : B) → option_map f o ≡ Some b
    → (a : A) × (o ≡ Some a) × (f a ≡ b)
mapped_of f None b e = cc
mapped_of f (Some a) b e = (a, refl, some_same e)

-- what is found leads on
pub then_is : {A B : Type 0} {o : Option A} {a : A} (f : A → Option B) → o ≡ Some a
    → (o >>? f) ≡ f a
then_is f e = ap (λ p. p >>? f) e

-- what passes a test is what was tested
pub passed : {A : Type 0} (x y : A) (test : A → Bool) (b : Bool) → test x ≡ b
    → (if b then Some x else None) ≡ Some y → (x ≡ y) × (test y ≡ true)
passed x y test true is e =
    let same : x ≡ y = some_same e in (same, subst (λ z. test z ≡ true) same is)
passed x y test false is e = cc
