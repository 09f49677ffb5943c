-- The slots of a pasteboard are read as it, and only slots of a pasteboard are read.
use Rattle.do_native_acts.specs.Types as texts
use Rattle.std.proofs.Common.{◌≡◌, ℕ, Bool, true, ◌&&◌, nat_lt, List as Listed, [], ◌∷◌, Option}
use Rattle.std.proofs.Common.{Some, None, map, refl, sym, ◌∙◌, ap, subst, IsTrue, not}
use Rattle.std.specs.{Prelude.{if◌then◌else◌, length, nat_le, ◌^◌}, List.{list_all, list_any}}
use Rattle.std.specs.{Map.keys_of, Option.IfSome, Str.bytes_eq}
use Rattle.std.proofs.lemmas.{Bool.{and_parts, and_from}, Map.Made.is_some-lookup}
use Rattle.do_base.specs.{values.Kinds.text, declared.values.value.Value.{Value, TheVariants.Text}}
use Rattle.do_native_acts.specs.Rows.{rows_in, listed}
use Rattle.do_native_acts.specs.laws.KindLaws.{found_of, passed, text_read, then_is}
use Rattle.do_native_acts.specs.{laws.RowLaws.{read_shown, shown_read}, Types.{are_types, is_type}}
use Rattle.do_native_acts.specs.{Owners.owner_in, laws.TypeLaws.texts_read}
use Rattle.do_table.specs.Entries.{are_distinct}
use Rattle.do_pboard.specs.Core.{Pasteboard, Declared, NamedBoard, are_boards, are_declared}
use Rattle.do_pboard.specs.Core.{begins_empty, board_in, board_row, content_in, content_row}
use Rattle.do_pboard.specs.Core.{contents, count_in, from_slots, is_board, merged, of_parts}
use Rattle.do_pboard.specs.Core.{to_slots, boards_read, types_read}
use Rattle.do_pboard.specs.laws.PartsExact.{count_shown, count_back, owner_shown, owner_back}
use Rattle.do_pboard.specs.laws.PartsExact.{contents_read, rows_read, content_back, board_back}
use Rattle.do_pboard.specs.laws.MergedExact.{merged_shown, merged_back}

-- what can be a pasteboard, in parts
pub record IsBoard (b : Pasteboard) : Type 0 where
  pub count : nat_lt b.count (2 ^ 63) ≡ true
  pub begins : begins_empty b ≡ true
  pub types : are_declared b.types ≡ true
  pub boards : are_boards b.boards ≡ true

-- the parts of what can be a pasteboard
pub board_is : (b : Pasteboard) → IsTrue (is_board b) → IsBoard b
board_is b is =
    let others = begins_empty b && (are_declared b.types && are_boards b.boards) in
    let first = and_parts (nat_lt b.count (2 ^ 63)) others is in
    let second =
    and_parts (begins_empty b) (are_declared b.types && are_boards b.boards) first.1 in
    let third = and_parts (are_declared b.types) (are_boards b.boards) second.1 in
    record { count = first.0; begins = second.0; types = third.0; boards = third.1 }

-- and what has these parts can be one
pub is_board_of : (b : Pasteboard) → IsBoard b → IsTrue (is_board b)
is_board_of b is =
    and_from (nat_lt b.count (2 ^ 63))
    (begins_empty b && (are_declared b.types && are_boards b.boards)) is.count
    (and_from (begins_empty b) (are_declared b.types && are_boards b.boards) is.begins
    (and_from (are_declared b.types) (are_boards b.boards) is.types is.boards))

-- types are distinct as their names are
pub distinct_names : (ts : Listed Declared) → are_distinct ts ≡ texts.are_distinct (keys_of ts)
distinct_names [] = refl
distinct_names (t ∷ ts) =
    ap (λ b. not b && are_distinct ts) (is_some-lookup (bytes_eq t.0) ts)
    ∙ ap (λ b. not (list_any (bytes_eq t.0) (keys_of ts)) && b) (distinct_names ts)

-- types of a pasteboard are few, each is one, and none is there twice
pub declared_parts : (ts : Listed Declared) → are_declared ts ≡ true
    → (nat_le (length (keys_of ts)) 64 ≡ true) × (list_all is_type (keys_of ts) ≡ true)
    × (are_distinct ts ≡ true)
declared_parts ts is =
    let ks = keys_of ts in
    let rest = list_all is_type ks && texts.are_distinct ks in
    let first = and_parts (nat_le (length ks) 64) rest is in
    let second = and_parts (list_all is_type ks) (texts.are_distinct ks) first.1 in
    (first.0, second.0, distinct_names ts ∙ second.1)

-- declared types are read as they were shown
declared_shown : (ts : Listed Declared) → are_declared ts ≡ true
    → types_read (listed (map Text (keys_of ts))) (listed (map content_row (contents ts))) ≡ Some ts
declared_shown ts is =
    then_is _ (read_shown text (λ (s : Listed ℕ). Text s) (keys_of ts) (texts_read (keys_of ts)))
    ∙ then_is _ (read_shown content_in content_row (contents ts) (contents_read (contents ts)))
    ∙ then_is _ (merged_shown ts (declared_parts ts is).2)
    ∙ ap (λ b. if b then Some ts else None) is

-- named pasteboards are read as they were shown
named_shown : (bs : Listed NamedBoard) → are_boards bs ≡ true
    → boards_read (listed (map board_row bs)) ≡ Some bs
named_shown bs is =
    then_is _ (read_shown board_in board_row bs (rows_read bs))
    ∙ ap (λ b. if b then Some bs else None) is

-- the slots of a pasteboard are read as it
pub from_to : (b : Pasteboard) → IsTrue (is_board b) → from_slots (to_slots b) ≡ Some b
from_to b is =
    let parts = board_is b is in
    then_is _ (count_shown b.count) ∙ then_is _ (owner_shown b.owner)
    ∙ then_is _ (declared_shown b.types parts.types) ∙ then_is _ (named_shown b.boards parts.boards)
    ∙ ap (λ t. if t then Some b else None)
    (and_from (nat_lt b.count (2 ^ 63)) (begins_empty b) parts.count parts.begins)

-- declared types are shown as they were read
pub declared_back : (types kept : Value) (ts : Listed Declared) → types_read types kept ≡ Some ts
    → (listed (map Text (keys_of ts)) ≡ types) × (listed (map content_row (contents ts)) ≡ kept)
    × (are_declared ts ≡ true)
declared_back types kept ts is =
    let ks = found_of (rows_in text types) _ ts is in
    let ds = found_of (rows_in content_in kept) _ ts ks.2 in
    let us = found_of (merged ks.0 ds.0) _ ts ds.2 in
    let from = merged_back ks.0 ds.0 us.0 us.1 in
    let known = passed us.0 ts are_declared (are_types ks.0) (ap are_types from.0) us.2 in (
      ap (λ xs. listed (map Text (keys_of xs))) (sym known.0)
          ∙ ap (λ xs. listed (map Text xs)) from.0
          ∙ shown_read text (λ (s : Listed ℕ). Text s) text_read types ks.0 ks.1,
      ap (λ xs. listed (map content_row (contents xs))) (sym known.0)
          ∙ ap (λ xs. listed (map content_row xs)) from.1
          ∙ shown_read content_in content_row content_back kept ds.0 ds.1,
      known.1,
    )

-- named pasteboards are shown as they were read
named_back : (v : Value) (bs : Listed NamedBoard) → boards_read v ≡ Some bs
    → (listed (map board_row bs) ≡ v) × (are_boards bs ≡ true)
named_back v bs is =
    let rows = found_of (rows_in board_in v) _ bs is in
    let known = passed rows.0 bs are_boards (are_boards rows.0) refl rows.2 in (
      ap (λ xs. listed (map board_row xs)) (sym known.0)
          ∙ shown_read board_in board_row board_back v rows.0 rows.1,
      known.1,
    )

-- a pasteboard of parts that can be one's
parts_same : (c b : Pasteboard) → of_parts c ≡ Some b → are_declared c.types ≡ true
    → are_boards c.boards ≡ true → (c ≡ b) × IsTrue (is_board b)
parts_same c b is types boards =
    let test : Pasteboard → Bool = λ x. nat_lt x.count (2 ^ 63) && begins_empty x in
    let known = passed c b test (test c) refl is in
    let parts = and_parts (nat_lt b.count (2 ^ 63)) (begins_empty b) known.1 in (
      known.0,
      is_board_of b (record {
        count = parts.0;
        begins = parts.1;
        types = subst (λ (x : Pasteboard). are_declared x.types ≡ true) known.0 types;
        boards = subst (λ (x : Pasteboard). are_boards x.boards ≡ true) known.0 boards;
      }),
    )

-- five slots that are the same are the same slots
same_slots : {a b c d e v w x y z : Value} → a ≡ v → b ≡ w → c ≡ x → d ≡ y → e ≡ z
    → a ∷ b ∷ c ∷ d ∷ e ∷ [] ≡ v ∷ w ∷ x ∷ y ∷ z ∷ []
same_slots p q r s t = cc

-- only slots of a pasteboard are read
pub to_from : (slots : Listed Value) (b : Pasteboard) → from_slots slots ≡ Some b
    → (to_slots b ≡ slots) × IsTrue (is_board b)
to_from [] b is = cc
to_from (v ∷ []) b is = cc
to_from (v ∷ w ∷ []) b is = cc
to_from (v ∷ w ∷ x ∷ []) b is = cc
to_from (v ∷ w ∷ x ∷ y ∷ []) b is = cc
to_from (count ∷ owner ∷ types ∷ kept ∷ boards ∷ []) b is =
    let n = found_of (count_in count) _ b is in
    let o = found_of (owner_in owner) _ b n.2 in
    let ts = found_of (types_read types kept) _ b o.2 in
    let bs = found_of (boards_read boards) _ b ts.2 in
    let c : Pasteboard = record { count = n.0; owner = o.0; types = ts.0; boards = bs.0 } in
    let declared = declared_back types kept ts.0 ts.1 in
    let named = named_back boards bs.0 bs.1 in
    let known = parts_same c b bs.2 declared.2 named.1 in (
      ap to_slots (sym known.0)
          ∙ same_slots (count_back count n.0 n.1) (owner_back owner o.0 o.1) declared.0
          declared.1 named.0,
      known.1,
    )
to_from (v ∷ w ∷ x ∷ y ∷ z ∷ u ∷ vs) b is = cc

-- so slots that are read are shown again as they were
pub read_back : (slots : Listed Value) (b : Pasteboard) → from_slots slots ≡ Some b
    → to_slots b ≡ slots
read_back slots b is = (to_from slots b is).0

-- whatever is read is shown again
pub exact_read : (slots : Listed Value) (o : Option Pasteboard) → o ≡ from_slots slots
    → IfSome o (λ b. to_slots b ≡ slots)
exact_read slots None is = tt
exact_read slots (Some b) is = read_back slots b (sym is)
