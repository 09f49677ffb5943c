-- The value of a name among one entry more or less, and names that stay distinct.
use Rattle.std.proofs.Common.{◌≡◌, ℕ, ◌≤◌, zero, suc, Bool, true, false, not, ◌&&◌, List, [], ◌∷◌}
use Rattle.std.proofs.Common.{◌++◌, length, Option, Some, None, refl, sym, ◌∙◌, ap, subst, arith}
use Rattle.std.proofs.Common.{true≢false, is_some, take, map, ◌+◌, ◌<◌, nat_le, length-append}
use Rattle.std.{proofs.Common.add-one, specs.Prelude.{if◌then◌else◌, slice_get, cond}}
use Rattle.std.{specs.{List.list_all, Str.bytes_eq}, proofs.lemmas.Bool.{and_parts, and_from}}
use Rattle.std.proofs.lemmas.{Bool.{leb-true, le-leb}, List.Folds.list_all-append}
use Rattle.std.proofs.lemmas.{Cmp.nat_list_eq_equiv, List.map-append, Slice.Eq.bytes_eq-Decides}
use Rattle.do_table.specs.Entries.{value_of, added, removed, are_distinct, is_table, given, unless}

-- names with the same bytes are the same
pub same_name : (a b : List ℕ) → bytes_eq a b ≡ true → a ≡ b
same_name a b is = (bytes_eq-Decides a b).0 is

-- a name has its own bytes
own_name : (a : List ℕ) → bytes_eq a a ≡ true
own_name a = (bytes_eq-Decides a a).1 refl

-- what is not so is false
not_true : (b : Bool) → not b ≡ true → b ≡ false
not_true true e = sym e
not_true false e = refl

-- and what is not false is so
not_false : (b : Bool) → not b ≡ false → b ≡ true
not_false true e = refl
not_false false e = sym e

-- a truth value and false are false
and_none : (b : Bool) → (b && false) ≡ false
and_none true = refl
and_none false = refl

-- the entries of a table of such values
abbrev Entries : Type 0 → Type 0
Entries V = List (List ℕ × V)

-- what two answers hold that are the same is the same
some_same : {A : Type 0} {x y : A} → Some x ≡ Some y → x ≡ y
some_same e = cc

module _ {V : Type 0} where
  -- what is not there is none
  none_is : (o : Option V) → is_some o ≡ false → o ≡ None
  none_is None e = refl
  none_is (Some x) e = absurd (true≢false e)

  -- the value of the first entry where it is of the name, else that of the others
  abbrev first_or : Bool → V → Option V → Option V
  first_or b value other = cond b (Some value) other

  -- a name is given its value behind the first entry as behind none
  given_first : (b : Bool) (value : V) (more old : Option V) (x : V) (same : Bool)
      → more ≡ given old x same → first_or b value more ≡ given (first_or b value old) x same
  given_first true value more old x same rest = refl
  given_first false value more old x same rest = rest

  -- the value of a name among one entry more
  pub value_pushed : (es : Entries V) (e : List ℕ × V) (name : List ℕ)
      → value_of (es ++ e ∷ []) name ≡ given (value_of es name) e.1 (bytes_eq name e.0)
  value_pushed [] e name = by (bytes_eq name e.0)
    where
      by : (b : Bool) → first_or b e.1 None ≡ given None e.1 b
      by true = refl
      by false = refl
  value_pushed (x ∷ es) e name =
      given_first (bytes_eq name x.0) x.1 (value_of (es ++ e ∷ []) name) (value_of es name) e.1
      (bytes_eq name e.0) (value_pushed es e name)

  -- once the first entry goes
  first_gone : (x : List ℕ × V) (es : Entries V) (gone name : List ℕ) → gone ≡ x.0
      → value_of es x.0 ≡ None
      → value_of es name ≡ unless (bytes_eq name gone) (value_of (x ∷ es) name)
  first_gone x es gone name is alone = by (bytes_eq name gone) refl
    where
      by : (b : Bool) → bytes_eq name gone ≡ b
          → value_of es name ≡ unless b (value_of (x ∷ es) name)
      by true same =
          subst (λ n. value_of es n ≡ None) (sym (same_name name gone same ∙ is)) alone
      by false differs =
          sym (ap (λ b. first_or b x.1 (value_of es name))
          (subst (λ n. bytes_eq name n ≡ false) is differs))

  -- once a later entry goes
  later_gone : (b c : Bool) (value : V) (rest all : Option V) → (c ≡ true → b ≡ false)
      → rest ≡ unless c all → first_or b value rest ≡ unless c (first_or b value all)
  later_gone true true value rest all apart is = absurd (true≢false (apart refl))
  later_gone true false value rest all apart is = refl
  later_gone false true value rest all apart is = is
  later_gone false false value rest all apart is = is

  -- the first name is not behind, and the others are distinct
  pub first_alone : (x : List ℕ × V) (es : Entries V) → are_distinct (x ∷ es) ≡ true
      → (value_of es x.0 ≡ None) × (are_distinct es ≡ true)
  first_alone x es distinct =
      let parts = and_parts (not (is_some (value_of es x.0))) (are_distinct es) distinct in
      (none_is (value_of es x.0) (not_true (is_some (value_of es x.0)) parts.0), parts.1)

  -- a name that has no value has none, whatever is taken out
  unless_none : (b : Bool) (o : Option V) → o ≡ None → unless b o ≡ None
  unless_none true o none = refl
  unless_none false o none = none

  -- the value of a name once one name is taken out
  pub value_removed : (es : Entries V) (gone name : List ℕ) → are_distinct es ≡ true
      → value_of (removed es gone) name ≡ unless (bytes_eq name gone) (value_of es name)
  value_removed [] gone name distinct = sym (unless_none (bytes_eq name gone) None refl)
  value_removed (x ∷ es) gone name distinct =
      by (bytes_eq gone x.0) refl (value_removed es gone name (first_alone x es distinct).1)
    where
      by : (b : Bool) → bytes_eq gone x.0 ≡ b
          → value_of (removed es gone) name ≡ unless (bytes_eq name gone) (value_of es name)
          → value_of (cond b es (x ∷ removed es gone)) name
          ≡ unless (bytes_eq name gone) (value_of (x ∷ es) name)
      by true same later =
          first_gone x es gone name (same_name gone x.0 same) (first_alone x es distinct).0
      by false differs later =
          later_gone (bytes_eq name x.0) (bytes_eq name gone) x.1
          (value_of (removed es gone) name) (value_of es name)
          (λ same. subst (λ n. bytes_eq n x.0 ≡ false) (sym (same_name name gone same)) differs)
          later

  -- a name that is not there is not there once another is taken out
  none_removed : (es : Entries V) (gone name : List ℕ) → are_distinct es ≡ true
      → value_of es name ≡ None → value_of (removed es gone) name ≡ None
  none_removed es gone name distinct none =
      value_removed es gone name distinct
      ∙ unless_none (bytes_eq name gone) (value_of es name) none

  -- names are distinct once one is taken out
  pub distinct_removed : (es : Entries V) (gone : List ℕ) → are_distinct es ≡ true
      → are_distinct (removed es gone) ≡ true
  distinct_removed [] gone distinct = refl
  distinct_removed (x ∷ es) gone distinct =
      by (bytes_eq gone x.0) (distinct_removed es gone (first_alone x es distinct).1)
    where
      by : (b : Bool) → are_distinct (removed es gone) ≡ true
          → are_distinct (cond b es (x ∷ removed es gone)) ≡ true
      by true rest = (first_alone x es distinct).1
      by false rest =
          let known = first_alone x es distinct in
          and_from (not (is_some (value_of (removed es gone) x.0)))
          (are_distinct (removed es gone))
          (ap (λ o. not (is_some o)) (none_removed es gone x.0 known.1 known.0)) rest

  -- a name that is not there is not there behind an entry of another name
  absent_pushed : (es : Entries V) (e : List ℕ × V) (name : List ℕ) → value_of es name ≡ None
      → bytes_eq name e.0 ≡ false → not (is_some (value_of (es ++ e ∷ []) name)) ≡ true
  absent_pushed es e name absent differs =
      ap (λ o. not (is_some o)) (value_pushed es e name)
      ∙ ap (λ o. not (is_some (given o e.1 (bytes_eq name e.0)))) absent
      ∙ ap (λ b. not (is_some (given None e.1 b))) differs

  -- a name that is not among all is not the first, nor among the others
  absent_parts : (b : Bool) (value : V) (o : Option V) → is_some (first_or b value o) ≡ false
      → (b ≡ false) × (is_some o ≡ false)
  absent_parts true value o e = absurd (true≢false e)
  absent_parts false value o e = (refl, e)

  -- names are distinct with one more that is new
  pub distinct_pushed : (es : Entries V) (e : List ℕ × V) → is_some (value_of es e.0) ≡ false
      → are_distinct es ≡ true → are_distinct (es ++ e ∷ []) ≡ true
  distinct_pushed [] e absent distinct = refl
  distinct_pushed (x ∷ es) e absent distinct =
      let known = first_alone x es distinct in
      let apart = absent_parts (bytes_eq e.0 x.0) x.1 (value_of es e.0) absent in
      let turned : bytes_eq x.0 e.0 ≡ false = nat_list_eq_equiv.symm x.0 e.0 ∙ apart.0 in
      and_from (not (is_some (value_of (es ++ e ∷ []) x.0))) (are_distinct (es ++ e ∷ []))
      (absent_pushed es e x.0 known.0 turned) (distinct_pushed es e apart.1 known.1)

  -- a value that is found among the others is found among all
  some_first : (b : Bool) (value : V) (o : Option V) → is_some o ≡ true
      → is_some (first_or b value o) ≡ true
  some_first true value o is = refl
  some_first false value o is = is

  -- the name of an entry that is there has a value
  entry_there : (es : Entries V) (i : ℕ) (e : List ℕ × V) → slice_get es i ≡ Some e
      → is_some (value_of es e.0) ≡ true
  entry_there [] i e is = cc
  entry_there (x ∷ es) zero e is =
      let same : x ≡ e = some_same is in
      ap (λ (y : List ℕ × V). is_some (first_or (bytes_eq e.0 y.0) y.1 (value_of es e.0))) same
      ∙ ap (λ b. is_some (first_or b e.1 (value_of es e.0))) (own_name e.0)
  entry_there (x ∷ es) (suc i) e is =
      some_first (bytes_eq e.0 x.0) x.1 (value_of es e.0) (entry_there es i e is)

  -- names are not distinct where one entry has a name that is in front of it
  named_twice : (es : Entries V) (i : ℕ) (e : List ℕ × V) → slice_get es i ≡ Some e
      → is_some (value_of (take i es) e.0) ≡ true → are_distinct es ≡ false
  named_twice [] i e is before = cc
  named_twice (x ∷ es) zero e is before = absurd (true≢false (sym before))
  named_twice (x ∷ es) (suc i) e is before =
      by (bytes_eq e.0 x.0) refl before (named_twice es i e is)
    where
      by : (b : Bool) → bytes_eq e.0 x.0 ≡ b
          → is_some (first_or b x.1 (value_of (take i es) e.0)) ≡ true
          → (is_some (value_of (take i es) e.0) ≡ true → are_distinct es ≡ false)
          → (not (is_some (value_of es x.0)) && are_distinct es) ≡ false
      by true same found later =
          ap (λ b. not b && are_distinct es)
          (subst (λ n. is_some (value_of es n) ≡ true) (same_name e.0 x.0 same)
          (entry_there es i e is))
      by false differs found later =
          ap (λ b. not (is_some (value_of es x.0)) && b) (later found)
          ∙ and_none (not (is_some (value_of es x.0)))

  -- what holds of all entries holds of those that stay
  pub all_removed : (test : List ℕ × V → Bool) (es : Entries V) (gone : List ℕ)
      → list_all test es ≡ true → list_all test (removed es gone) ≡ true
  all_removed test [] gone all = refl
  all_removed test (e ∷ es) gone all = by (bytes_eq gone e.0) (all_removed test es gone parts.1)
    where
      parts : (test e ≡ true) × (list_all test es ≡ true)
      parts = and_parts (test e) (list_all test es) all

      by : (b : Bool) → list_all test (removed es gone) ≡ true
          → list_all test (cond b es (e ∷ removed es gone)) ≡ true
      by true rest = parts.1
      by false rest = and_from (test e) (list_all test (removed es gone)) parts.0 rest

  -- no more entries stay than there were
  pub fewer_removed : (es : Entries V) (gone : List ℕ) → length (removed es gone) ≤ length es
  fewer_removed [] gone = omega arith
  fewer_removed (e ∷ es) gone = by (bytes_eq gone e.0) (fewer_removed es gone)
    where
      by : (b : Bool) → length (removed es gone) ≤ length es
          → length (cond b es (e ∷ removed es gone)) ≤ length (e ∷ es)
      by true few = omega arith
      by false few = omega (arith, few)

  -- the entries up to one more
  pub take_one : (es : Entries V) (i : ℕ) (e : List ℕ × V) → slice_get es i ≡ Some e
      → take (suc i) es ≡ take i es ++ e ∷ []
  take_one [] i e is = cc
  take_one (x ∷ es) zero e is =
      let same : x ≡ e = some_same is in
      ap (λ y. y ∷ []) same
  take_one (x ∷ es) (suc i) e is = ap (λ ys. x ∷ ys) (take_one es i e is)

  -- a new name goes behind the others
  added_new : (es : Entries V) (e : List ℕ × V) (b : Bool) → b ≡ false
      → (if b then es else es ++ e ∷ []) ≡ es ++ e ∷ []
  added_new es e true is = absurd (true≢false is)
  added_new es e false is = refl

  -- so a name without value goes behind the others
  pub added_absent : (es : Entries V) (name : List ℕ) (value : V) → value_of es name ≡ None
      → added es name value ≡ es ++ (name, value) ∷ []
  added_absent es name value absent =
      added_new es (name, value) (is_some (value_of es name)) (ap is_some absent)

  -- A table that took the first of these entries, and now one more of a new name, holds them all,
  -- and their names are distinct.
  pub entry_added : (es table new : Entries V) (i : ℕ) (e : List ℕ × V) → slice_get es i ≡ Some e
      → table ≡ take i es → are_distinct (take i es) ≡ true
      → not (is_some (value_of table e.0)) ≡ true → new ≡ added table e.0 e.1
      → (new ≡ take (suc i) es) × (are_distinct (take (suc i) es) ≡ true)
  entry_added es table new i e found so_far distinct fresh is =
      let absent : is_some (value_of table e.0) ≡ false =
      not_true (is_some (value_of table e.0)) fresh in
      let longer : take (suc i) es ≡ take i es ++ e ∷ [] = take_one es i e found in
      let unknown : is_some (value_of (take i es) e.0) ≡ false =
      subst (λ xs. is_some (value_of xs e.0) ≡ false) so_far absent in (
        is ∙ added_new table e (is_some (value_of table e.0)) absent
            ∙ ap (λ xs. xs ++ e ∷ []) so_far ∙ sym longer,
        ap are_distinct longer ∙ distinct_pushed (take i es) e unknown distinct,
      )

  -- where the table has the name of an entry, not all names are distinct
  pub entry_refused : (es table : Entries V) (i : ℕ) (e : List ℕ × V) → slice_get es i ≡ Some e
      → table ≡ take i es → not (is_some (value_of table e.0)) ≡ false → are_distinct es ≡ false
  entry_refused es table i e found so_far known =
      named_twice es i e found
      (subst (λ xs. is_some (value_of xs e.0) ≡ true) so_far
      (not_false (is_some (value_of table e.0)) known))

  -- what is shown of one entry more
  pub shown_more : {A : Type 0} (show : List ℕ × V → A) (es : Entries V) (i : ℕ)
      (e : List ℕ × V) (rows new : List A) (row : A) → slice_get es i ≡ Some e
      → rows ≡ map show (take i es) → row ≡ show e → new ≡ rows ++ row ∷ []
      → new ≡ map show (take (i + 1) es)
  shown_more show es i e rows new row found so_far is pushed =
      pushed ∙ ap (λ r. rows ++ r ∷ []) is ∙ ap (λ rs. rs ++ show e ∷ []) so_far
      ∙ sym (ap (map show) (ap (λ n. take n es) (add-one i) ∙ take_one es i e found)
      ∙ map-append show (take i es) (e ∷ []))

  -- the parts of the test of entries within a limit
  pub table_parts : (most : ℕ) (test : List ℕ × V → Bool) (es : Entries V)
      → is_table most test es ≡ true
      → (nat_le (length es) most ≡ true) × (list_all test es ≡ true) × (are_distinct es ≡ true)
  table_parts most test es is =
      let first = and_parts (nat_le (length es) most) (list_all test es && are_distinct es) is in
      let second = and_parts (list_all test es) (are_distinct es) first.1 in
      (first.0, second.0, second.1)

  -- and entries of these parts pass it
  pub table_of_parts : (most : ℕ) (test : List ℕ × V → Bool) (es : Entries V)
      → nat_le (length es) most ≡ true → list_all test es ≡ true → are_distinct es ≡ true
      → is_table most test es ≡ true
  table_of_parts most test es few all distinct =
      and_from (nat_le (length es) most) (list_all test es && are_distinct es) few
      (and_from (list_all test es) (are_distinct es) all distinct)

  -- entries within a limit are so without one
  pub table_removed : (most : ℕ) (test : List ℕ × V → Bool) (es : Entries V) (gone : List ℕ)
      → is_table most test es ≡ true → is_table most test (removed es gone) ≡ true
  table_removed most test es gone is =
      let parts = table_parts most test es is in
      table_of_parts most test (removed es gone)
      (le-leb (length (removed es gone)) most
      (omega (arith, fewer_removed es gone, leb-true (length es) most parts.0)))
      (all_removed test es gone parts.1) (distinct_removed es gone parts.2)

  -- and with one more, where there is room and its name is new
  pub table_pushed : (most : ℕ) (test : List ℕ × V → Bool) (es : Entries V) (e : List ℕ × V)
      → length es < most → value_of es e.0 ≡ None → test e ≡ true → is_table most test es ≡ true
      → is_table most test (es ++ e ∷ []) ≡ true
  table_pushed most test es e few absent good is =
      let parts = table_parts most test es is in
      table_of_parts most test (es ++ e ∷ [])
      (le-leb (length (es ++ e ∷ [])) most (omega (arith, length-append es (e ∷ []), few)))
      (list_all-append test es (e ∷ [])
      ∙ and_from (list_all test es) (test e && true) parts.1 (and_from (test e) true good refl))
      (distinct_pushed es e (ap is_some absent) parts.2)
