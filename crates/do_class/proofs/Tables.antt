-- A table with no class, and one with a class more.
use Rattle.std.proofs.Common.{◌≡◌, ℕ, ◌<◌, List, [], ◌∷◌, ◌++◌, length, false, Option, Some, None}
use Rattle.std.proofs.Common.{refl, sym, ◌∙◌, ap, subst, arith, length-append}
use Rattle.std.specs.{List.IsDistinct, Str.bytes_eq, BTreeMap.{BTreeMap, Updates, IsEmpty, get}}
use Rattle.std.specs.{BTreeMap.is_at, Map.lookup, Prelude.is_some, Cmp.Lexicographic.slice_cmp}
use Rattle.std.{specs.Ordering.nat_cmp, proofs.lemmas.{Cmp.nat_list_eq_equiv, List.map-append}}
use Rattle.std.proofs.lemmas.{List.{length-map, Elements.All-push}, Map.Keys.IsDistinct-push}
use Rattle.do_class.specs.{Class.{Class, IsClass}, Table.names_of, Index.IsIndexOf}
use Rattle.do_class.{specs.Index.IsIndexedTable, proofs.Places.{IsIndexOf-push, list_any-none}}

-- no number is below zero
less-zero : (k : ℕ) → k < 0 → ⊥
less-zero k within = omega arith

-- a table with no class, and an empty map
pub IsIndexedTable-empty : (places : BTreeMap (List ℕ) ℕ) → IsEmpty places
    → IsIndexedTable [] places
unfolding IsDistinct
IsIndexedTable-empty places empty = record {
  limits = record {
    few = omega arith;
    names = tt;
    classes = λ k d within. absurd (less-zero k within);
  };
  index = λ text. ap (λ entries. lookup (is_at (slice_cmp nat_cmp text)) entries) empty;
}

-- an option that a test finds empty is none
none_where : (o : Option ℕ) → is_some o ≡ false → o ≡ None
none_where None no_value = refl
none_where (Some k) no_value = cc

-- a class more, and its name in the map
IsIndexedTable-push : (table : List Class) (c : Class) (before after : BTreeMap (List ℕ) ℕ)
    → IsIndexedTable table before → length table < 256 → IsClass c
    → get (slice_cmp nat_cmp) before c.name ≡ None
    → Updates (slice_cmp nat_cmp) before after c.name (Some (length table))
    → IsIndexedTable (table ++ c ∷ []) after
IsIndexedTable-push table c before after indexed room limits absent updates =
    let names : names_of (table ++ c ∷ []) ≡ names_of table ++ c.name ∷ [] =
    map-append (λ (d : Class). d.name) table (c ∷ []) in
    let new = sym (indexed.index c.name) ∙ absent in
    let apart =
    IsDistinct-push nat_list_eq_equiv (names_of table) c.name indexed.limits.names
    (list_any-none (bytes_eq c.name) (names_of table) new) in
    let is_last : length table ≡ length (names_of table) =
    sym (length-map table (λ (d : Class). d.name)) in
    record {
      limits = record {
        few = omega (arith, length-append table (c ∷ []));
        names = subst (IsDistinct bytes_eq) (sym names) apart;
        classes = All-push IsClass table c indexed.limits.classes limits;
      };
      index = subst (λ texts. IsIndexOf texts after) (sym names)
          (IsIndexOf-push (names_of table) c.name before after
          (length table) is_last new updates indexed.index);
    }

-- the same, over what the calls on the way answered
pub IsIndexedTable-added : (table grown : List Class) (c added : Class) (key : List ℕ)
    (before after : BTreeMap (List ℕ) ℕ) → grown ≡ table ++ added ∷ [] → added ≡ c → key ≡ c.name
    → IsIndexedTable table before → length table < 256 → IsClass c
    → is_some (get (slice_cmp nat_cmp) before c.name) ≡ false
    → Updates (slice_cmp nat_cmp) before after key (Some (length table))
    → IsIndexedTable grown after
IsIndexedTable-added table grown c added key before after longer same_class same_name indexed room
    limits absent updates =
    let named =
    subst (λ text. Updates (slice_cmp nat_cmp) before after text (Some (length table)))
    same_name updates in
    subst (λ classes. IsIndexedTable classes after) (sym (longer
    ∙ ap (λ d. table ++ d ∷ []) same_class))
    (IsIndexedTable-push table c before after indexed room limits (none_where _ absent) named)
