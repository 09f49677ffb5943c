-- What the calls leave is what they tell.
use Rattle.std.proofs.Common.{◌≡◌, ℕ, Bool, true, false, nat_lt, List as Listed, [], ◌∷◌, ◌++◌}
use Rattle.std.proofs.Common.{length, Option, Some, None, refl, sym, ◌∙◌, ap, is_some}
use Rattle.std.specs.{Prelude.if◌then◌else◌, Option.option_map, Str.bytes_eq}
use Rattle.do_table.specs.Entries.{value_of, are_distinct, entered, given, unless}
use Rattle.do_table.specs.laws.Entered.{distinct_entered, value_entered}
use Rattle.do_table.specs.laws.TableLaws.{distinct_removed, value_removed}
use Rattle.do_services.specs.{Calls.as_number, Core.{Entry, add_at, keyed}}
use Rattle.do_native_acts.specs.History.{left}
use Rattle.do_services.specs.{History.after, Meaning.told, declared.calls.Call.Call}
use Rattle.do_services.specs.declared.calls.Call.TheVariants.{Add, Remove, Items, Named}
use Rattle.do_services.specs.declared.service.Service.{Service}

-- an `Add` leaves the services with one entered where there is room
add_left : (es : Listed Entry) (s : Service) (o : Option Service) → value_of es s.item ≡ o
    → left es (option_map as_number (add_at es s o))
    ≡ entered es (keyed s) (nat_lt (length es) 256)
add_left es s (Some had) is = by (nat_lt (length es) 256)
  where
    by : (room : Bool) → es ≡ entered es (keyed s) room
    by true = sym (ap (λ (x : Option Service). if is_some x then es else es ++ keyed s ∷ []) is)
    by false = refl
add_left es s None is = by (nat_lt (length es) 256)
  where
    by : (room : Bool)
        → left es (option_map as_number (if room then Some (es ++ keyed s ∷ [], true) else None))
        ≡ entered es (keyed s) room
    by true = sym (ap (λ (x : Option Service). if is_some x then es else es ++ keyed s ∷ []) is)
    by false = refl

-- no call leaves an item twice
after_distinct : (h : Listed Call) → are_distinct (after h) ≡ true
after_distinct [] = refl
after_distinct (Add s ∷ h) =
    ap are_distinct (add_left (after h) s (value_of (after h) s.item) refl)
    ∙ distinct_entered (after h) (keyed s) (nat_lt (length (after h)) 256) (after_distinct h)
after_distinct (Remove item ∷ h) = distinct_removed (after h) item (after_distinct h)
after_distinct (Items ∷ h) = after_distinct h
after_distinct (Named item ∷ h) = after_distinct h

-- the service of an item is the one that the calls tell
is_told : (h : Listed Call) (item : Listed ℕ) → value_of (after h) item ≡ told h item
is_told [] item = refl
is_told (Add s ∷ h) item =
    ap (λ es. value_of es item) (add_left (after h) s (value_of (after h) s.item) refl)
    ∙ value_entered (after h) (keyed s) (nat_lt (length (after h)) 256) item
    ∙ ap (λ o. if bytes_eq item s.item then given o s (nat_lt (length (after h)) 256) else o)
    (is_told h item)
is_told (Remove other ∷ h) item =
    value_removed (after h) other item (after_distinct h)
    ∙ ap (unless (bytes_eq item other)) (is_told h item)
is_told (Items ∷ h) item = is_told h item
is_told (Named other ∷ h) item = is_told h item

-- and so it is of services that the calls left
pub service_told : (h : Listed Call) (es : Listed Entry) (item : Listed ℕ) → es ≡ after h
    → value_of es item ≡ told h item
service_told h es item is = ap (λ xs. value_of xs item) is ∙ is_told h item
