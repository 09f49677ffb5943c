-- What the map's insertion of a new name leaves.
use Rattle.std.proofs.Common.{◌≡◌, ℕ, Bool, true, false, is_some, List, [], ◌∷◌, ◌++◌, Some, refl}
use Rattle.std.proofs.Common.{sym, ◌∙◌, ap, true≢false}
use Rattle.std.specs.{Prelude.{cond, if◌then◌else◌}, Str.bytes_eq}
use Rattle.indexmap.specs.IndexMap.{insert_entry}
use Rattle.do_table.specs.Entries.{value_of, added}

module _ {V : Type 0} (name : List ℕ) (value : V) where
  -- a new name goes last
  goes_last : (es : List (List ℕ × V)) → is_some (value_of es name) ≡ false
      → insert_entry bytes_eq es name value ≡ es ++ (name, value) ∷ []
  goes_last [] absent = refl
  goes_last (e ∷ es) absent = by (bytes_eq name e.0) absent (goes_last es)
    where
      by : (b : Bool) → is_some (cond b (Some e.1) (value_of es name)) ≡ false
          → (is_some (value_of es name) ≡ false
          → insert_entry bytes_eq es name value ≡ es ++ (name, value) ∷ [])
          → (if b then (e.0, value) ∷ es else e ∷ insert_entry bytes_eq es name value)
          ≡ e ∷ es ++ (name, value) ∷ []
      by true found rest = absurd (true≢false found)
      by false none rest = ap (λ xs. e ∷ xs) (rest none)

  -- so the entries are those with the name added
  pub inserted_is_added : (es : List (List ℕ × V)) → is_some (value_of es name) ≡ false
      → insert_entry bytes_eq es name value ≡ added es name value
  inserted_is_added es absent =
      goes_last es absent
      ∙ sym (ap (λ b. if b then es else es ++ (name, value) ∷ []) absent)
