-- What the calls leave is what they tell.
use Rattle.std.proofs.Common.{◌≡◌, ℕ, Bool, true, false, nat_lt, List as Listed, [], ◌∷◌, ◌++◌}
use Rattle.std.proofs.Common.{length, Option, Some, None, refl, sym, ◌∙◌, ap, is_some}
use Rattle.std.specs.{Prelude.if◌then◌else◌, Option.option_map, Str.bytes_eq}
use Rattle.do_table.specs.Entries.{value_of, are_distinct, entered, given, unless}
use Rattle.do_table.specs.laws.Entered.{distinct_entered, value_entered}
use Rattle.do_table.specs.laws.TableLaws.{distinct_removed, value_removed}
use Rattle.do_names.specs.{Core.{Entry, register_at}, Calls.as_number}
use Rattle.do_native_acts.specs.History.{left}
use Rattle.do_names.specs.{History.after, Meaning.told, declared.calls.Call.Call}
use Rattle.do_names.specs.declared.calls.Call.TheVariants.{Register, Lookup, Unregister}

-- a `Register` leaves the names with one entered where there is room
register_left : (es : Listed Entry) (name : Listed ℕ) (port : ℕ) (o : Option ℕ)
    → value_of es name ≡ o → left es (option_map as_number (register_at es name port o))
    ≡ entered es (name, port) (nat_lt (length es) 512)
register_left es name port (Some had) is = by (nat_lt (length es) 512)
  where
    by : (room : Bool) → es ≡ entered es (name, port) room
    by true = sym (ap (λ (x : Option ℕ). if is_some x then es else es ++ (name, port) ∷ []) is)
    by false = refl
register_left es name port None is = by (nat_lt (length es) 512)
  where
    by : (room : Bool) → left es (option_map as_number
        (if room then Some (es ++ (name, port) ∷ [], true) else None))
        ≡ entered es (name, port) room
    by true = sym (ap (λ (x : Option ℕ). if is_some x then es else es ++ (name, port) ∷ []) is)
    by false = refl

-- no call leaves a name twice
after_distinct : (h : Listed Call) → are_distinct (after h) ≡ true
after_distinct [] = refl
after_distinct (Register name port ∷ h) =
    ap are_distinct (register_left (after h) name port (value_of (after h) name) refl)
    ∙ distinct_entered (after h) (name, port) (nat_lt (length (after h)) 512) (after_distinct h)
after_distinct (Lookup name ∷ h) = after_distinct h
after_distinct (Unregister name ∷ h) = distinct_removed (after h) name (after_distinct h)

-- the port of a name is the one that the calls tell
is_told : (h : Listed Call) (name : Listed ℕ) → value_of (after h) name ≡ told h name
is_told [] name = refl
is_told (Register other port ∷ h) name =
    ap (λ es. value_of es name) (register_left (after h) other port (value_of (after h) other) refl)
    ∙ value_entered (after h) (other, port) (nat_lt (length (after h)) 512) name
    ∙ ap (λ o.
    if bytes_eq name other then given o port (nat_lt (length (after h)) 512) else o)
    (is_told h name)
is_told (Lookup other ∷ h) name = is_told h name
is_told (Unregister other ∷ h) name =
    value_removed (after h) other name (after_distinct h)
    ∙ ap (unless (bytes_eq name other)) (is_told h name)

-- and so it is of names that the calls left
pub port_told : (h : Listed Call) (es : Listed Entry) (name : Listed ℕ) → es ≡ after h
    → value_of es name ≡ told h name
port_told h es name is = ap (λ xs. value_of xs name) is ∙ is_told h name
