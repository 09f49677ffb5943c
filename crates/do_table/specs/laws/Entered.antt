-- What adding a name leaves, where there is room for it or not.
use Rattle.std.proofs.Common.{◌≡◌, ℕ, Bool, true, false, List, [], ◌∷◌, ◌++◌, Option, Some, None}
use Rattle.std.proofs.Common.{refl, sym, ◌∙◌, ap, is_some, true≢false}
use Rattle.std.specs.{Prelude.if◌then◌else◌, Str.bytes_eq}
use Rattle.do_table.specs.Entries.{value_of, added, are_distinct, entered, given}
use Rattle.do_table.specs.laws.TableLaws.{distinct_pushed, same_name, value_pushed}

module _ {V : Type 0} where
  -- where no name is added, a name has what it had
  pub given_none : (o : Option V) (value : V) → given o value false ≡ o
  given_none None value = refl
  given_none (Some had) value = refl

  -- what a name has once one is added
  pub value_added : (es : List (List ℕ × V)) (new : List ℕ) (value : V) (name : List ℕ)
      → value_of (added es new value) name
      ≡ given (value_of es name) value (bytes_eq name new)
  value_added es new value name = by (is_some (value_of es new)) refl
    where
      known : (o : Option V) (b : Bool) → (b ≡ true → is_some o ≡ true) → o ≡ given o value b
      known (Some had) b there = refl
      known None true there = absurd (true≢false (sym (there refl)))
      known None false there = refl

      by : (b : Bool) → is_some (value_of es new) ≡ b
          → value_of (if b then es else es ++ (new, value) ∷ []) name
          ≡ given (value_of es name) value (bytes_eq name new)
      by true there =
          known (value_of es name) (bytes_eq name new)
          (λ same. ap (λ n. is_some (value_of es n)) (same_name name new same) ∙ there)
      by false absent = value_pushed es (new, value) name

  -- names are distinct once one is added
  pub distinct_added : (es : List (List ℕ × V)) (new : List ℕ) (value : V)
      → are_distinct es ≡ true → are_distinct (added es new value) ≡ true
  distinct_added es new value distinct = by (is_some (value_of es new)) refl
    where
      by : (b : Bool) → is_some (value_of es new) ≡ b
          → are_distinct (if b then es else es ++ (new, value) ∷ []) ≡ true
      by true there = distinct
      by false absent = distinct_pushed es (new, value) absent distinct

  -- what a name has once an entry was to be added
  pub value_entered : (es : List (List ℕ × V)) (e : List ℕ × V) (room : Bool) (name : List ℕ)
      → value_of (entered es e room) name
      ≡ (if bytes_eq name e.0 then given (value_of es name) e.1 room else value_of es name)
  value_entered es e true name = value_added es e.0 e.1 name ∙ by (bytes_eq name e.0)
    where
      by : (b : Bool) → given (value_of es name) e.1 b
          ≡ (if b then given (value_of es name) e.1 true else value_of es name)
      by true = refl
      by false = given_none (value_of es name) e.1
  value_entered es e false name = by (bytes_eq name e.0)
    where
      by : (b : Bool) → value_of es name
          ≡ (if b then given (value_of es name) e.1 false else value_of es name)
      by true = sym (given_none (value_of es name) e.1)
      by false = refl

  -- names are distinct then
  pub distinct_entered : (es : List (List ℕ × V)) (e : List ℕ × V) (room : Bool)
      → are_distinct es ≡ true → are_distinct (entered es e room) ≡ true
  distinct_entered es e true distinct = distinct_added es e.0 e.1 distinct
  distinct_entered es e false distinct = distinct
