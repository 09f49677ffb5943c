-- The change count, the owner and the rows of a pasteboard are read as they were shown, and
-- only so.
use Rattle.std.proofs.Common.{◌≡◌, ℕ, zero, suc, ℤ, pos, negsuc, Bool, true, false, nat_lt}
use Rattle.std.proofs.Common.{List as Listed, Option, Some, None, refl, sym, ◌∙◌, ap, rules}
use Rattle.std.{proofs.Common.{true≢false, arith}, specs.{Prelude.if◌then◌else◌, List.All}}
use Rattle.std.proofs.lemmas.Bool.{lt-ltb}
use Rattle.do_base.specs.{names.Names.ObjectName, values.Induction.value_induction}
use Rattle.do_base.specs.{values.Kinds.{text, object}, declared.values.value.Value.{Value, List}}
use Rattle.do_base.specs.declared.values.value.Value.{the_lemmas, TheVariants.{Nil, Num, Text, Obj}}
use Rattle.do_native_acts.specs.laws.{KeptLaws.each_holds, KindLaws.{some_same, text_of_Text}}
use Rattle.do_native_acts.specs.laws.KindLaws.{object_of_Obj, text_read, object_read}
use Rattle.do_native_acts.specs.{laws.RowLaws.{pair_shown, pair_back}, Owners.owner_in}
use Rattle.do_pboard.specs.Core.{Content, NamedBoard, board_in, board_row, content_in, content_row}
use Rattle.do_pboard.specs.Core.{count_in, count_value, owner_value}

-- nil is the change count 0
count_of_Nil : count_in Nil ≡ Some 0
count_of_Nil = search (rules, the_lemmas)

-- a number is the change count where it is above 0
count_of_pos : (n : ℕ) → count_in (Num (pos n)) ≡ (if nat_lt 0 n then Some n else None)
count_of_pos n = search (rules, the_lemmas)

-- and none below
count_of_negsuc : (n : ℕ) → count_in (Num (negsuc n)) ≡ None
count_of_negsuc n = search (rules, the_lemmas)

-- a text is no change count
count_of_Text : (s : Listed ℕ) → count_in (Text s) ≡ None
count_of_Text s = search (rules, the_lemmas)

-- nor is an object
count_of_Obj : (o : ObjectName) → count_in (Obj o) ≡ None
count_of_Obj o = search (rules, the_lemmas)

-- nor is a list
count_of_List : (vs : Listed Value) → count_in (List vs) ≡ None
count_of_List vs = search (rules, the_lemmas)

-- a number that is not above 0 is 0
no_count : (n : ℕ) → nat_lt 0 n ≡ false → n ≡ 0
no_count zero e = refl
no_count (suc n) e = absurd (true≢false (sym (lt-ltb 0 (suc n) (omega arith)) ∙ e))

-- a change count is read as it was shown
pub count_shown : (n : ℕ) → count_in (count_value n) ≡ Some n
count_shown n = by (nat_lt 0 n) refl
  where
    by : (b : Bool) → nat_lt 0 n ≡ b → count_in (if b then Num (pos n) else Nil) ≡ Some n
    by true above = count_of_pos n ∙ ap (λ b. if b then Some n else None) above
    by false none = count_of_Nil ∙ ap (λ k. Some k) (sym (no_count n none))

-- a number that is read is above 0
number_back : (k n : ℕ) → (if nat_lt 0 k then Some k else None) ≡ Some n
    → count_value n ≡ Num (pos k)
number_back k n = by (nat_lt 0 k) refl
  where
    by : (b : Bool) → nat_lt 0 k ≡ b → (if b then Some k else None) ≡ Some n
        → count_value n ≡ Num (pos k)
    by true above e =
        ap count_value (sym (some_same e)) ∙ ap (λ b. if b then Num (pos k) else Nil) above
    by false none e = cc

-- and shown as it was read
pub count_back : (v : Value) (n : ℕ) → count_in v ≡ Some n → count_value n ≡ v
count_back =
    value_induction (λ v. (n : ℕ) → count_in v ≡ Some n → count_value n ≡ v)
    (λ n e. ap count_value (sym (some_same (sym count_of_Nil ∙ e))))
    of_number
    (λ s n e. cc (e, count_of_Text s))
    (λ o n e. cc (e, count_of_Obj o))
    (λ vs _ n e. cc (e, count_of_List vs))
  where
    of_number : (z : ℤ) (n : ℕ) → count_in (Num z) ≡ Some n → count_value n ≡ Num z
    of_number (pos k) n e = number_back k n (sym (count_of_pos k) ∙ e)
    of_number (negsuc k) n e = cc (e, count_of_negsuc k)

-- nil is no owner
owner_of_Nil : owner_in Nil ≡ Some None
owner_of_Nil = search (rules, the_lemmas)

-- a number is not read as an owner
owner_of_Num : (z : ℤ) → owner_in (Num z) ≡ None
owner_of_Num z = search (rules, the_lemmas)

-- nor is a text
owner_of_Text : (s : Listed ℕ) → owner_in (Text s) ≡ None
owner_of_Text s = search (rules, the_lemmas)

-- an object is an owner
owner_of_Obj : (o : ObjectName) → owner_in (Obj o) ≡ Some (Some o)
owner_of_Obj o = search (rules, the_lemmas)

-- a list is not
owner_of_List : (vs : Listed Value) → owner_in (List vs) ≡ None
owner_of_List vs = search (rules, the_lemmas)

-- an owner is read as it was shown
pub owner_shown : (o : Option ObjectName) → owner_in (owner_value o) ≡ Some o
owner_shown None = owner_of_Nil
owner_shown (Some o) = owner_of_Obj o

-- and shown as it was read
pub owner_back : (v : Value) (o : Option ObjectName) → owner_in v ≡ Some o → owner_value o ≡ v
owner_back =
    value_induction (λ v. (o : Option ObjectName) → owner_in v ≡ Some o → owner_value o ≡ v)
    (λ o e. ap owner_value (sym (some_same (sym owner_of_Nil ∙ e))))
    (λ z o e. cc (e, owner_of_Num z))
    (λ s o e. cc (e, owner_of_Text s))
    (λ p o e. ap owner_value (sym (some_same (sym (owner_of_Obj p) ∙ e))))
    (λ vs _ o e. cc (e, owner_of_List vs))

-- each type with its data is read as it was shown
pub contents_read : (ds : Listed Content) → All (λ d. content_in (content_row d) ≡ Some d) ds
contents_read =
    each_holds (λ (d : Content). content_in (content_row d) ≡ Some d) (λ d.
    pair_shown text text (λ (s : Listed ℕ). Text s) (λ (s : Listed ℕ). Text s) d
    (text_of_Text d.0) (text_of_Text d.1))

-- each named pasteboard is read as it was shown
pub rows_read : (bs : Listed NamedBoard) → All (λ b. board_in (board_row b) ≡ Some b) bs
rows_read =
    each_holds (λ (b : NamedBoard). board_in (board_row b) ≡ Some b) (λ b.
    pair_shown text object (λ (s : Listed ℕ). Text s) (λ (o : ObjectName). Obj o) b
    (text_of_Text b.0) (object_of_Obj b.1))

-- a type with its data is shown as it was read
pub content_back : (v : Value) (d : Content) → content_in v ≡ Some d → content_row d ≡ v
content_back =
    pair_back text text (λ (s : Listed ℕ). Text s) (λ (s : Listed ℕ). Text s) text_read text_read

-- and so is a named pasteboard
pub board_back : (v : Value) (b : NamedBoard) → board_in v ≡ Some b → board_row b ≡ v
board_back =
    pair_back text object (λ (s : Listed ℕ). Text s) (λ (o : ObjectName). Obj o) text_read
    object_read
