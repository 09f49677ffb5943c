-- What the lists and tables of the kit's `toml` are seen as.
use Rattle.std.proofs.Common.{◌≡◌, ℕ, ◌<◌, ◌≤◌, ◌&&◌, nat_le, List, [], ◌∷◌, length, map, true}
use Rattle.std.proofs.Common.{false, Some, None, String, Global, string_bytes, refl, ap, arith, ◌∙◌}
use Rattle.std.{specs.Map.keys_of, proofs.lemmas.{Bool.Decides.nat_tests, List.length-map}}
use Rattle.toml.specs.{Data.{Data, as_array}, View.{items_view, members_view, view}}
use Rattle.toml.specs.declared.value.Value.{Value}
use Rattle.do_document.specs.{Checks.is_list, Document.{keys, members}}

-- the keys of a table are those of its map
pub keys_seen : (es : List (String Global × Value))
    → keys (members_view es) ≡ map string_bytes (keys_of es)
keys_seen [] = refl
keys_seen (e ∷ es) = ap (λ ks. string_bytes e.0 ∷ ks) (keys_seen es)

-- the members of a list are its values
pub members_seen : (vs : List Value) → members (items_view vs) ≡ map view vs
members_seen [] = refl
members_seen (v ∷ vs) = ap (λ ds. view v ∷ ds) (members_seen vs)

-- how many members a list has
pub members_counted : (vs : List Value) → length (members (items_view vs)) ≡ length vs
members_counted vs = ap length (members_seen vs) ∙ length-map vs view

-- what is no list is none of a length
pub no_list : (least most : ℕ) (d : Data) → as_array d ≡ None → is_list least most d ≡ false
no_list least most d e = rw e

-- a list, by its length
list_seen : (least most : ℕ) (d : Data) (vs : List Value) → as_array d ≡ Some (items_view vs)
    → is_list least most d ≡ (nat_le least (length vs) && nat_le (length vs) most)
list_seen least most d vs e = let counted = members_counted vs in rw (e, counted)

-- a list that is neither too short nor too long
pub list_fits : (least most : ℕ) (d : Data) (vs : List Value) → as_array d ≡ Some (items_view vs)
    → least ≤ length vs → length vs ≤ most → is_list least most d ≡ true
list_fits least most d vs e low high =
    let seen = list_seen least most d vs e in
    let both : (nat_le least (length vs) && nat_le (length vs) most) ≡ true =
    grind (arith, nat_tests) in seen ∙ both

-- a list that is too short
pub list_short : (least most : ℕ) (d : Data) (vs : List Value) → as_array d ≡ Some (items_view vs)
    → length vs < least → is_list least most d ≡ false
list_short least most d vs e low =
    let seen = list_seen least most d vs e in
    let not_both : (nat_le least (length vs) && nat_le (length vs) most) ≡ false =
    grind (arith, nat_tests) in seen ∙ not_both

-- a list that is too long
pub list_long : (least most : ℕ) (d : Data) (vs : List Value) → as_array d ≡ Some (items_view vs)
    → most < length vs → is_list least most d ≡ false
list_long least most d vs e high =
    let seen = list_seen least most d vs e in
    let not_both : (nat_le least (length vs) && nat_le (length vs) most) ≡ false =
    grind (arith, nat_tests) in seen ∙ not_both

-- the facts on lists that readers need
pub ruleset lists = (members_seen, members_counted, no_list, list_fits, list_short, list_long)
