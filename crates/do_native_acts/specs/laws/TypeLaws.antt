-- A list of types is read as it was shown, and shown as it was read.
use Rattle.std.proofs.Common.{◌≡◌, ℕ, true, List as Listed, Some, None, map, refl, sym, ◌∙◌, ap}
use Rattle.std.specs.{Prelude.if◌then◌else◌, List.All}
use Rattle.do_base.specs.{values.Kinds.text, declared.values.value.Value.{Value, List}}
use Rattle.do_base.specs.declared.values.value.Value.TheVariants.{Text}
use Rattle.do_native_acts.specs.{Rows.list_in, Types.{are_types, types_in}}
use Rattle.do_native_acts.specs.laws.KeptLaws.{each_holds}
use Rattle.do_native_acts.specs.laws.KindLaws.{found_of, passed, text_of_Text, text_read, then_is}
use Rattle.do_native_acts.specs.laws.RowLaws.{list_back, list_shown}

-- each text is read as it was shown
pub texts_read : (ts : Listed (Listed ℕ)) → All (λ t. text (Text t) ≡ Some t) ts
texts_read = each_holds (λ (t : Listed ℕ). text (Text t) ≡ Some t) text_of_Text

-- a list of types is read as it was shown
pub types_shown : (types : Listed (Listed ℕ)) → are_types types ≡ true
    → types_in (List (map (λ (s : Listed ℕ). Text s) types)) ≡ Some types
types_shown types is =
    then_is _ (list_shown text (λ (s : Listed ℕ). Text s) types (texts_read types))
    ∙ ap (λ b. if b then Some types else None) is

-- and shown as it was read
pub types_back : (v : Value) (types : Listed (Listed ℕ)) → types_in v ≡ Some types
    → (List (map (λ (s : Listed ℕ). Text s) types) ≡ v) × (are_types types ≡ true)
types_back v types is =
    let found = found_of (list_in text v) _ types is in
    let chosen = passed found.0 types are_types (are_types found.0) refl found.2 in (
      ap (λ ts. List (map (λ (s : Listed ℕ). Text s) ts)) (sym chosen.0)
          ∙ list_back text (λ (s : Listed ℕ). Text s) text_read v found.0 found.1,
      chosen.1,
    )
