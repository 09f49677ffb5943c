-- What a list in a slot is read as, and shown as again.
use Rattle.std.proofs.Common.{◌≡◌, ℕ, ℤ, List as Listed, [], ◌∷◌, Option, Some, None, map, refl}
use Rattle.std.proofs.Common.{sym, ◌∙◌, ap, rules, Bool, true}
use Rattle.std.{specs.List.{All, list_all}, proofs.lemmas.Bool.and_from, specs.Option.option_map}
use Rattle.std.proofs.lemmas.List.Elements.{All-head, All-tail}
use Rattle.do_base.specs.{names.Names.ObjectName, values.Induction.value_induction}
use Rattle.do_base.specs.declared.values.value.Value.{Value, List, the_lemmas}
use Rattle.do_base.specs.declared.values.value.Value.TheVariants.{Nil, Num, Text, Obj}
use Rattle.do_base.specs.values.Kinds.{items}
use Rattle.do_grammar.specs.Words.{◌>>?◌}
use Rattle.do_native_acts.specs.Rows.{with_first, read_all, rows_in, list_in, pair_of, pair_in}
use Rattle.do_native_acts.specs.{Rows.listed, laws.KindLaws.{some_same, found_of, mapped_of}}
use Rattle.do_native_acts.specs.laws.KindLaws.{items_of_List, items_read}

-- nil holds no row
rows_of_Nil : {A : Type 0} (read : Value → Option A) → rows_in read Nil ≡ Some []
rows_of_Nil read = search (rules, the_lemmas)

-- a number holds no list of rows
rows_of_Num : {A : Type 0} (read : Value → Option A) (z : ℤ) → rows_in read (Num z) ≡ None
rows_of_Num read z = search (rules, the_lemmas)

-- nor does a text
rows_of_Text : {A : Type 0} (read : Value → Option A) (s : Listed ℕ) → rows_in read (Text s) ≡ None
rows_of_Text read s = search (rules, the_lemmas)

-- nor an object
rows_of_Obj : {A : Type 0} (read : Value → Option A) (o : ObjectName) → rows_in read (Obj o) ≡ None
rows_of_Obj read o = search (rules, the_lemmas)

-- nor the empty list, since nil stands for it
rows_of_none : {A : Type 0} (read : Value → Option A) → rows_in read (List []) ≡ None
rows_of_none read = search (rules, the_lemmas)

-- a list holds what is read of each item
rows_of_List : {A : Type 0} (read : Value → Option A) (v : Value) (vs : Listed Value)
    → rows_in read (List (v ∷ vs)) ≡ read_all read (v ∷ vs)
rows_of_List read v vs = search (rules, the_lemmas)

-- where all are read, the first and the others are
first_and_rest : {A : Type 0} (o : Option A) (p : Option (Listed A)) (xs : Listed A)
    → with_first o p ≡ Some xs
    → (x : A) × (ys : Listed A) × (o ≡ Some x) × (p ≡ Some ys) × (xs ≡ x ∷ ys)
first_and_rest None p xs e = cc
first_and_rest (Some x) None xs e = cc
first_and_rest (Some x) (Some ys) xs e = (x, ys, refl, refl, sym (some_same e))

module _ {A : Type 0} (read : Value → Option A) (shown : A → Value) where
  -- rows are read as they were shown
  all_shown : (xs : Listed A) → All (λ x. read (shown x) ≡ Some x) xs
      → read_all read (map shown xs) ≡ Some xs
  all_shown [] all = refl
  all_shown (x ∷ xs) all =
      ap (λ o. with_first o (read_all read (map shown xs)))
      (All-head (λ (y : A). read (shown y) ≡ Some y) x xs all)
      ∙ ap (λ o. option_map (λ ys. x ∷ ys) o)
      (all_shown xs (All-tail (λ (y : A). read (shown y) ≡ Some y) x xs all))

  -- a list of rows is read as it was shown
  pub read_shown : (xs : Listed A) → All (λ x. read (shown x) ≡ Some x) xs
      → rows_in read (listed (map shown xs)) ≡ Some xs
  read_shown [] all = rows_of_Nil read
  read_shown (x ∷ xs) all =
      rows_of_List read (shown x) (map shown xs) ∙ all_shown (x ∷ xs) all

  -- each row is shown as it was read
  abbrev IsExact : Type 0
  IsExact = (v : Value) (x : A) → read v ≡ Some x → shown x ≡ v

  -- rows are shown as they were read
  all_read : IsExact → (vs : Listed Value) (xs : Listed A) → read_all read vs ≡ Some xs
      → map shown xs ≡ vs
  all_read exact [] xs e = ap (map shown) (sym (some_same e))
  all_read exact (v ∷ vs) xs e =
      let parts = first_and_rest (read v) (read_all read vs) xs e in
      ap (map shown) parts.4 ∙ ap (λ w. w ∷ map shown parts.1) (exact v parts.0 parts.2)
      ∙ ap (λ ws. v ∷ ws) (all_read exact vs parts.1 parts.3)

  -- and so is the list of them
  list_read : IsExact → (vs : Listed Value) (xs : Listed A) → rows_in read (List vs) ≡ Some xs
      → listed (map shown xs) ≡ List vs
  list_read exact [] xs e = cc (e, rows_of_none read)
  list_read exact (v ∷ vs) xs e =
      ap listed (all_read exact (v ∷ vs) xs (sym (rows_of_List read v vs) ∙ e))

  -- and shown as it was read, where each row is
  pub shown_read : IsExact → (v : Value) (xs : Listed A) → rows_in read v ≡ Some xs
      → listed (map shown xs) ≡ v
  shown_read exact =
      value_induction (λ v. (xs : Listed A) → rows_in read v ≡ Some xs → listed (map shown xs) ≡ v)
      (λ xs e. ap (λ ys. listed (map shown ys)) (sym (some_same (sym (rows_of_Nil read) ∙ e))))
      (λ z xs e. cc (e, rows_of_Num read z))
      (λ s xs e. cc (e, rows_of_Text read s))
      (λ o xs e. cc (e, rows_of_Obj read o))
      (λ vs _. list_read exact vs)

  -- a list of rows is read as it was shown
  pub list_shown : (xs : Listed A) → All (λ x. read (shown x) ≡ Some x) xs
      → list_in read (List (map shown xs)) ≡ Some xs
  list_shown xs all =
      ap (λ o. o >>? read_all read) (items_of_List (map shown xs)) ∙ all_shown xs all

  -- and shown as it was read, where each row is
  pub list_back : IsExact → (v : Value) (xs : Listed A) → list_in read v ≡ Some xs
      → List (map shown xs) ≡ v
  list_back exact v xs e =
      let found = found_of (items v) (read_all read) xs e in
      ap List (all_read exact found.0 xs found.2) ∙ items_read v found.0 found.1

module _ {A B : Type 0} (first : Value → Option A) (second : Value → Option B)
    (one : A → Value) (other : B → Value) where
  -- a pair as a value
  abbrev pub pair : A × B → Value
  pair p = List (one p.0 ∷ other p.1 ∷ [])

  -- a pair is read as it was shown
  pub pair_shown : (p : A × B) → first (one p.0) ≡ Some p.0 → second (other p.1) ≡ Some p.1
      → pair_in first second (pair p) ≡ Some p
  pair_shown p is_first is_second =
      ap (λ o. o >>? pair_of first second) (items_of_List (one p.0 ∷ other p.1 ∷ []))
      ∙ ap (λ o. o >>? λ a. option_map (λ b. (a, b)) (second (other p.1))) is_first
      ∙ ap (option_map (λ b. (p.0, b))) is_second

  -- what a pair was read from
  pair_items : ((v : Value) (a : A) → first v ≡ Some a → one a ≡ v)
      → ((v : Value) (b : B) → second v ≡ Some b → other b ≡ v)
      → (vs : Listed Value) (p : A × B) → pair_of first second vs ≡ Some p
      → one p.0 ∷ other p.1 ∷ [] ≡ vs
  pair_items back_first back_second [] p e = cc
  pair_items back_first back_second (v ∷ []) p e = cc
  pair_items back_first back_second (v ∷ w ∷ []) p e =
      let a = found_of (first v) (λ x. option_map (λ b. (x, b)) (second w)) p e in
      let b = mapped_of (λ (y : B). (a.0, y)) (second w) p a.2 in
      ap (λ (q : A × B). one q.0 ∷ other q.1 ∷ []) (sym b.2)
      ∙ ap (λ x. x ∷ other b.0 ∷ []) (back_first v a.0 a.1)
      ∙ ap (λ x. v ∷ x ∷ []) (back_second w b.0 b.1)
  pair_items back_first back_second (v ∷ w ∷ x ∷ vs) p e = cc

  -- a pair is shown as it was read
  pub pair_back : ((v : Value) (a : A) → first v ≡ Some a → one a ≡ v)
      → ((v : Value) (b : B) → second v ≡ Some b → other b ≡ v)
      → (v : Value) (p : A × B) → pair_in first second v ≡ Some p → pair p ≡ v
  pair_back back_first back_second v p e =
      let found = found_of (items v) (pair_of first second) p e in
      ap List (pair_items back_first back_second found.0 p found.2)
      ∙ items_read v found.0 found.1

module _ {A : Type 0} (read : Value → Option A) (test : A → Bool)
    (good : (v : Value) (x : A) → read v ≡ Some x → test x ≡ true) where
  -- what holds of each row that is read holds of all that are
  all_hold : (vs : Listed Value) (xs : Listed A) → read_all read vs ≡ Some xs
      → list_all test xs ≡ true
  all_hold [] xs e = ap (list_all test) (sym (some_same e))
  all_hold (v ∷ vs) xs e =
      let parts = first_and_rest (read v) (read_all read vs) xs e in
      ap (list_all test) parts.4
      ∙ and_from (test parts.0) (list_all test parts.1) (good v parts.0 parts.2)
      (all_hold vs parts.1 parts.3)

  -- also in a list
  items_hold : (vs : Listed Value) (xs : Listed A) → rows_in read (List vs) ≡ Some xs
      → list_all test xs ≡ true
  items_hold [] xs e = cc (e, rows_of_none read)
  items_hold (v ∷ vs) xs e = all_hold (v ∷ vs) xs (sym (rows_of_List read v vs) ∙ e)

  -- and in a slot
  pub rows_hold : (v : Value) (xs : Listed A) → rows_in read v ≡ Some xs
      → list_all test xs ≡ true
  rows_hold =
      value_induction (λ v. (xs : Listed A) → rows_in read v ≡ Some xs → list_all test xs ≡ true)
      (λ xs e. ap (list_all test) (sym (some_same (sym (rows_of_Nil read) ∙ e))))
      (λ z xs e. cc (e, rows_of_Num read z))
      (λ s xs e. cc (e, rows_of_Text read s))
      (λ o xs e. cc (e, rows_of_Obj read o))
      (λ vs _. items_hold vs)
