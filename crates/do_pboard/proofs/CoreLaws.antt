-- What stays of what a pasteboard can be.
use Rattle.do_native_acts.specs.Types as texts
use Rattle.std.proofs.Common.{◌≡◌, ℕ, ◌+◌, ◌<◌, ◌==◌, Bool, true, false, not, ◌&&◌, nat_lt, nat_le}
use Rattle.std.proofs.Common.{List, [], ◌∷◌, ◌++◌, length, length-append, Option, None, refl, sym}
use Rattle.std.proofs.Common.{◌∙◌, ap, arith, is_some, IsTrue}
use Rattle.std.specs.{Prelude.if◌then◌else◌, List.list_all, Map.keys_of, Str.bytes_eq}
use Rattle.std.proofs.lemmas.Bool.{and_parts, and_from, le-leb, eqb-true, ltb-true}
use Rattle.std.proofs.lemmas.Map.{length-set_value, Entries.length-keys_of}
use Rattle.do_base.specs.names.Names.{ObjectName}
use Rattle.do_native_acts.specs.Types.{are_types, is_type}
use Rattle.do_table.specs.Entries.{value_of, are_distinct, replaced}
use Rattle.do_table.specs.laws.TableLaws.{distinct_pushed}
use Rattle.do_pboard.specs.Changes.{can_grow, declared, with_types}
use Rattle.do_pboard.specs.Core.{Pasteboard, Declared, NamedBoard, are_declared, bare, is_board}
use Rattle.do_pboard.specs.laws.SlotsExact.{board_is, declared_parts, distinct_names, is_board_of}
use Rattle.do_pboard.proofs.TypesAdded.{distinct_joined, keys_bare, keys_joined, types_joined}
use Rattle.do_pboard.proofs.TypesReplaced.{keys_replaced}

-- types that are few, of which each is one and none is there twice, can be a pasteboard's
declared_of : (ts : List Declared) → nat_le (length ts) 64 ≡ true
    → list_all is_type (keys_of ts) ≡ true → are_distinct ts ≡ true → are_declared ts ≡ true
declared_of ts few each distinct =
    let ks = keys_of ts in
    and_from (nat_le (length ks) 64) (list_all is_type ks && texts.are_distinct ks)
    (ap (λ n. nat_le n 64) (length-keys_of ts) ∙ few)
    (and_from (list_all is_type ks) (texts.are_distinct ks) each
    (sym (distinct_names ts) ∙ distinct))

-- a pasteboard whose change count is above 0 begins in any way
begins_later : (n : ℕ) (b : Bool) → 0 < n → (if n == 0 then b else true) ≡ true
begins_later n b above = by (n == 0) refl
  where
    by : (t : Bool) → (n == 0) ≡ t → (if t then b else true) ≡ true
    by true is = absurd (none (eqb-true n 0 is))
      where
        none : n ≡ 0 → ⊥
        none e = omega (arith, e, above)
    by false is = refl

-- types are declared
pub declared_board : (b : Pasteboard) (types : List (List ℕ)) (owner : Option ObjectName)
    → IsTrue (is_board b) → are_types types ≡ true → can_grow b.count ≡ true
    → IsTrue (is_board (declared b types owner))
declared_board b types owner is good room =
    let parts = board_is b is in
    let new = declared b types owner in
    is_board_of new (record {
      count = room;
      begins =
          begins_later (b.count + 1) (not (is_some owner) && length (bare types) == 0)
          (omega arith);
      types = ap are_types (keys_bare types) ∙ good;
      boards = parts.boards;
    })

-- types are added
pub added_board : (b : Pasteboard) (types : List (List ℕ)) → IsTrue (is_board b)
    → are_types types ≡ true → nat_lt 0 b.count ≡ true
    → nat_le (length (with_types b.types types)) 64 ≡ true
    → IsTrue (is_board (record b { types = with_types b.types types }))
added_board b types is good above few =
    let parts = board_is b is in
    let old = declared_parts b.types parts.types in
    let more = declared_parts (bare types) (ap are_types (keys_bare types) ∙ good) in
    let all = with_types b.types types in
    is_board_of (record b { types = all }) (record {
      count = parts.count;
      begins =
          begins_later b.count (not (is_some b.owner) && length all == 0)
          (ltb-true 0 b.count above);
      types =
          declared_of all few
          (ap (list_all is_type) (keys_joined b.types types)
          ∙ types_joined (keys_of b.types) types old.1
          (sym (ap (list_all is_type) (keys_bare types)) ∙ more.1))
          (distinct_joined b.types types old.2);
      boards = parts.boards;
    })

-- a type takes data
pub supplied_board : (b : Pasteboard) (kind : List ℕ) (content : Option (List ℕ))
    → IsTrue (is_board b) → IsTrue (is_board (record b { types = replaced b.types kind content }))
supplied_board b kind content is =
    let parts = board_is b is in
    is_board_of (record b { types = replaced b.types kind content }) (record {
      count = parts.count;
      begins =
          ap (λ n. if b.count == 0 then not (is_some b.owner) && n == 0 else true)
          (length-set_value (bytes_eq kind) b.types content) ∙ parts.begins;
      types = ap are_types (keys_replaced kind content b.types) ∙ parts.types;
      boards = parts.boards;
    })

-- a pasteboard is kept under a new name
pub kept_board : (b : Pasteboard) (name : List ℕ) (board : ObjectName) → IsTrue (is_board b)
    → value_of b.boards name ≡ None → length b.boards < 256
    → IsTrue (is_board (record b { boards = b.boards ++ (name, board) ∷ [] }))
kept_board b name board is absent few =
    let parts = board_is b is in
    let e : NamedBoard = (name, board) in
    let all = b.boards ++ e ∷ [] in
    let old =
    and_parts (nat_le (length b.boards) 256) (are_distinct b.boards) parts.boards in
    is_board_of (record b { boards = all }) (record {
      count = parts.count;
      begins = parts.begins;
      types = parts.types;
      boards =
          and_from (nat_le (length all) 256) (are_distinct all)
          (le-leb (length all) 256 (omega (arith, length-append b.boards (e ∷ []), few)))
          (distinct_pushed b.boards e (ap is_some absent) old.1);
    })
