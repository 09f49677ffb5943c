-- The slots of a core are read as that core, and only slots of a core are read.
use Rattle.std.proofs.Common.{◌≡◌, ℕ, pos, Bool, true, false, ◌&&◌, nat_lt, List as Listed, [], ◌∷◌}
use Rattle.std.proofs.Common.{length, Some, None, map, refl, sym, ◌∙◌, ap, IsTrue}
use Rattle.std.specs.{Prelude.{option_and_then, if◌then◌else◌}, List.{All, list_all}}
use Rattle.std.proofs.lemmas.{Bool.and_parts, List.Elements.All-weaker}
use Rattle.std.proofs.lemmas.{List.Sums.AllPass-from_list_all, Option.option_and_then_some}
use Rattle.do_base.specs.declared.values.value.Value.{Value, TheVariants.{Num, Text}}
use Rattle.do_base.specs.values.Kinds.{text}
use Rattle.do_native_acts.specs.{Ports.port_in, Rows.{rows_in, listed}}
use Rattle.do_native_acts.specs.laws.KindLaws.{some_same, passed, text_of_Text, text_read}
use Rattle.do_native_acts.specs.laws.PortLaws.{port_of_Num, port_read}
use Rattle.do_native_acts.specs.laws.RowLaws.{read_shown, shown_read, pair_shown, pair_back}
use Rattle.do_table.specs.laws.TableLaws.{table_parts}
use Rattle.do_names.specs.Core.{Entry, is_entry, are_names, name_in, entry_in, row, of_core}
use Rattle.do_names.specs.Core.{from_slots, to_slots}

-- a text that is not empty is read as a name
name_of_Text : (s : Listed ℕ) → nat_lt 0 (length s) ≡ true → name_in (Text s) ≡ Some s
name_of_Text s long =
    ap (λ o. option_and_then (λ t. if nat_lt 0 (length t) then Some t else None) o) (text_of_Text s)
    ∙ ap (λ b. if b then Some s else None) long

-- an entry is read as it was shown
entry_of_row : (e : Entry) → is_entry e ≡ true → entry_in (row e) ≡ Some e
entry_of_row e is =
    let parts = and_parts (nat_lt 0 (length e.0)) (nat_lt 0 e.1 && nat_lt e.1 65536) is in
    pair_shown name_in port_in (λ (s : Listed ℕ). Text s) (λ (p : ℕ). Num (pos p)) e
    (name_of_Text e.0 parts.0) (port_of_Num e.1 parts.1)

-- and so is each of a core
entries_read : (es : Listed Entry) → list_all is_entry es ≡ true
    → All (λ e. entry_in (row e) ≡ Some e) es
entries_read es all =
    All-weaker (λ (e : Entry). is_entry e ≡ true) (λ (e : Entry). entry_in (row e) ≡ Some e)
    entry_of_row es (AllPass-from_list_all is_entry es all)

-- the slots of a core are read as that core
pub from_to : (es : Listed Entry) → IsTrue (are_names es) → from_slots (to_slots es) ≡ Some es
from_to es names =
    let parts = table_parts 512 is_entry es names in
    ap (λ o. option_and_then of_core o) (read_shown entry_in row es (entries_read es parts.1))
    ∙ ap (λ b. if b then Some es else None) names

-- a name is the text that it was read from
name_read : (v : Value) (n : Listed ℕ) → name_in v ≡ Some n → Text n ≡ v
name_read v n is =
    option_and_then_some (λ t. if nat_lt 0 (length t) then Some t else None) (text v) n is
    (λ s found passes. ap Text (same s (nat_lt 0 (length s)) passes) ∙ text_read v s found)
  where
    same : (s : Listed ℕ) (b : Bool) → (if b then Some s else None) ≡ Some n → n ≡ s
    same s true e = sym (some_same e)
    same s false e = cc

-- an entry is shown as it was read
row_read : (v : Value) (e : Entry) → entry_in v ≡ Some e → row e ≡ v
row_read =
    pair_back name_in port_in (λ (s : Listed ℕ). Text s) (λ (p : ℕ). Num (pos p)) name_read
    (λ v p read. (port_read v p read).0)

-- only slots of a core are read
pub to_from : (slots : Listed Value) (es : Listed Entry) → from_slots slots ≡ Some es
    → (to_slots es ≡ slots) × IsTrue (are_names es)
to_from [] es is = cc
to_from (slot ∷ []) es is =
    option_and_then_some of_core (rows_in entry_in slot) es is (λ read found chosen.
    let known = passed read es are_names (are_names read) refl chosen in (
      ap (λ v. v ∷ []) (ap (λ xs. listed (map row xs)) (sym known.0)
          ∙ shown_read entry_in row row_read slot read found),
      known.1,
    ))
to_from (slot ∷ other ∷ slots) es is = cc

-- so slots that are read are shown again as they were
pub read_back : (slots : Listed Value) (es : Listed Entry) → from_slots slots ≡ Some es
    → to_slots es ≡ slots
read_back slots es is = (to_from slots es is).0
