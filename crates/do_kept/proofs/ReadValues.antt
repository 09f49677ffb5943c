-- What native acts read of values that can be carried.
use Rattle.std.proofs.Common.{◌≡◌, ◌&&◌, ◌<◌, ℕ, ℤ, Bool, true, false, cond, List as Listed, []}
use Rattle.std.proofs.Common.{◌∷◌, length, refl, sym, subst, ◌∙◌, arith, rules}
use Rattle.std.specs.Prelude.{None, Option, Some, nat_le, nat_lt, negsuc, option_map, pos}
use Rattle.std.specs.{List.AllByRecursion, Option.IfSome}
use Rattle.std.proofs.lemmas.Bool.{and_parts, Decides.nat_tests}
use Rattle.do_base.specs.{names.Names.ObjectName, values.Induction.value_induction}
use Rattle.do_base.specs.values.{Kinds.{number, text}, Texts.longest_text}
use Rattle.do_base.specs.declared.values.value.Value.{List, Value, the_lemmas}
use Rattle.do_base.specs.declared.values.value.Value.TheVariants.{Nil, Num, Obj, Text}
use Rattle.do_grammar.specs.Words.{◌>>?◌}
use Rattle.do_coder.specs.Parts.{is_bytes}
use Rattle.do_behave.specs.laws.ValueKinds.{by_items, by_text}
use Rattle.do_native_acts.specs.{Ports.{port_in, port_number}, Rows.{list_in, pair_in, pair_of}}
use Rattle.do_native_acts.specs.{Rows.{read_all, rows_in, with_first}, Types.{are_types, types_in}}
use Rattle.do_limits.specs.Sendable.{AreSendable, IsSendable}
use Rattle.do_limits.proofs.{scripts.MadeLists.items_sendable, values.Carried.carry-Text}

-- ---- what is found or chosen

-- what is found leads on
pub if_then : {A B : Type 0} (P : A → Type 0) (Q : B → Type 0) (o : Option A) (f : A → Option B) →
    IfSome o P → ((x : A) → P x → IfSome (f x) Q) → IfSome (o >>? f) Q
if_then P Q None f h each = tt
if_then P Q (Some x) f h each = each x h

-- and so does whatever is found
pub if_any : {A B : Type 0} (Q : B → Type 0) (o : Option A) (f : A → Option B) →
    ((x : A) → IfSome (f x) Q) → IfSome (o >>? f) Q
if_any Q None f each = tt
if_any Q (Some x) f each = each x

-- what passes a test
pub if_passed : {A : Type 0} (P : A → Type 0) (b : Bool) (x : A) → (b ≡ true → P x) →
    IfSome (cond b (Some x) None) P
if_passed P true x h = h refl
if_passed P false x h = tt

-- the type that a function takes, where it has no name here
abbrev pub Taken : {A B : Type 0} → (A → B) → Type 0
Taken {A} {B} f = A

-- ---- texts and ports

-- a text of bytes
abbrev pub IsOfBytes : Listed ℕ → Type 0
IsOfBytes s = is_bytes s ≡ true

-- each of these
abbrev pub AreOfBytes : Listed (Listed ℕ) → Type 0
AreOfBytes ts = AllByRecursion IsOfBytes ts

-- the text of a value
pub text_is : (v : Value) → IsSendable v → IfSome (text v) IsOfBytes
text_is =
    by_text (λ o v. IsSendable v → IfSome o IsOfBytes) (λ v h. tt)
    (λ s h. (and_parts (nat_le (length s) longest_text) (is_bytes s) (sym (carry-Text 8 s) ∙ h)).1)

-- a port
abbrev pub IsPortNumber : ℕ → Type 0
IsPortNumber n = n < 65536

-- the port that a value is
pub port_is : (v : Value) → IfSome (port_in v) IsPortNumber
port_is v = go (number v)
  where
    of_number : (z : ℤ) → IfSome (port_number z) IsPortNumber
    of_number (pos n) = one (nat_lt 0 n) (nat_lt n 65536) (below n)
      where
        below : (k : ℕ) → nat_lt k 65536 ≡ true → k < 65536
        below k e = grind (arith, nat_tests, e)

        one : (a b : Bool) → (b ≡ true → n < 65536) →
            IfSome (cond (a && b) (Some n) None) IsPortNumber
        one true true h = h refl
        one true false h = tt
        one false b h = tt
    of_number (negsuc n) = tt

    go : (o : Option ℤ) → IfSome (o >>? port_number) IsPortNumber
    go None = tt
    go (Some z) = of_number z

-- ---- pairs and lists

-- the pair that a value is, where its parts are such
pub pair_is : {A B : Type 0} (P : A → Type 0) (Q : B → Type 0) (first : Value → Option A)
    (second : Value → Option B) → ((v : Value) → IsSendable v → IfSome (first v) P) →
    ((v : Value) → IsSendable v → IfSome (second v) Q) → (v : Value) → IsSendable v →
    IfSome (pair_in first second v) (λ (p : A × B). P p.0 × Q p.1)
pair_is {A} {B} P Q first second one other =
    by_items (λ o v. IsSendable v → IfSome (o >>? pair_of first second) Both) (λ v h. tt)
    (λ vs h. pair vs (items_sendable vs h))
  where
    Both : A × B → Type 0
    Both p = P p.0 × Q p.1

    both : (o : Option A) (p : Option B) → IfSome o P → IfSome p Q →
        IfSome (o >>? λ a. option_map (λ b. (a, b)) p) Both
    both None p h k = tt
    both (Some a) None h k = tt
    both (Some a) (Some b) h k = (h, k)

    pair : (vs : Listed Value) → AreSendable vs → IfSome (pair_of first second vs) Both
    pair [] h = tt
    pair (v ∷ []) h = tt
    pair (v ∷ w ∷ []) h = both (first v) (second w) (one v h.0) (other w h.1.0)
    pair (v ∷ w ∷ x ∷ vs) h = tt

module _ {A : Type 0} (P : A → Type 0) (read : Value → Option A)
    (each : (v : Value) → IsSendable v → IfSome (read v) P) where
  -- each of those that are read is such
  abbrev All : Listed A → Type 0
  All xs = AllByRecursion P xs

  -- all that are read
  pub all_are : (vs : Listed Value) → AreSendable vs → IfSome (read_all read vs) All
  all_are [] h = tt
  all_are (v ∷ vs) h = both (read v) (read_all read vs) (each v h.0) (all_are vs h.1)
    where
      both : (o : Option A) (p : Option (Listed A)) → IfSome o P → IfSome p All →
          IfSome (with_first o p) All
      both None p h k = tt
      both (Some x) None h k = tt
      both (Some x) (Some xs) h k = (h, k)

  -- so are those of a list
  pub list_is : (v : Value) → IsSendable v → IfSome (list_in read v) All
  list_is =
      by_items (λ o v. IsSendable v → IfSome (o >>? read_all read) All) (λ v h. tt)
      (λ vs h. all_are vs (items_sendable vs h))

  -- so are the rows of a slot
  pub rows_are : (v : Value) → IsSendable v → IfSome (rows_in read v) All
  rows_are =
      value_induction (λ v. IsSendable v → Rows (rows_in read v))
      (λ h. subst Rows (sym of_Nil) tt) (λ z h. subst Rows (sym (of_Num z)) tt)
      (λ s h. subst Rows (sym (of_Text s)) tt) (λ o h. subst Rows (sym (of_Obj o)) tt)
      (λ vs ih h. of_items vs h)
    where
      Rows : Option (Listed A) → Type 0
      Rows o = IfSome o All

      of_Nil : rows_in read Nil ≡ Some []
      of_Nil = search (rules, the_lemmas)

      of_Num : (z : ℤ) → rows_in read (Num z) ≡ None
      of_Num z = search (rules, the_lemmas)

      of_Text : (s : Listed ℕ) → rows_in read (Text s) ≡ None
      of_Text s = search (rules, the_lemmas)

      of_Obj : (o : ObjectName) → rows_in read (Obj o) ≡ None
      of_Obj o = search (rules, the_lemmas)

      of_none : rows_in read (List []) ≡ None
      of_none = search (rules, the_lemmas)

      of_List : (v : Value) (vs : Listed Value) →
          rows_in read (List (v ∷ vs)) ≡ read_all read (v ∷ vs)
      of_List v vs = search (rules, the_lemmas)

      of_items : (vs : Listed Value) → IsSendable (List vs) → Rows (rows_in read (List vs))
      of_items [] h = subst Rows (sym of_none) tt
      of_items (v ∷ vs) h =
          subst Rows (sym (of_List v vs)) (all_are (v ∷ vs) (items_sendable (v ∷ vs) h))

-- the types that a value is
pub types_are : (v : Value) → IsSendable v → IfSome (types_in v) AreOfBytes
types_are v h =
    if_then AreOfBytes AreOfBytes (list_in text v) (λ ts. cond (are_types ts) (Some ts) None)
    (list_is IsOfBytes text text_is v h)
    (λ ts k. if_passed AreOfBytes (are_types ts) ts (λ e. k))
