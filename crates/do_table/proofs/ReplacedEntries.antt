-- What a write at the place of a name leaves.
use Rattle.std.proofs.Common.{◌≡◌, ℕ, Bool, true, false, is_some, List, [], ◌∷◌, Some, refl, sym}
use Rattle.std.proofs.Common.{◌∙◌, ap, true≢false}
use Rattle.std.specs.{Prelude.{cond, if◌then◌else◌, position}, Map.keys_of, Str.bytes_eq}
use Rattle.indexmap.specs.IndexMap.{insert_entry, set_value_at}
use Rattle.indexmap.proofs.MapLemmas.{Found-position, insert_entry-first}
use Rattle.do_table.specs.Entries.{value_of, replaced}

module _ {V : Type 0} (name : List ℕ) (value : V) where
  -- where the name is there, its value is replaced as by an insertion
  replaced_there : (es : List (List ℕ × V)) → is_some (value_of es name) ≡ true
      → replaced es name value ≡ insert_entry bytes_eq es name value
  replaced_there [] there = absurd (true≢false (sym there))
  replaced_there (e ∷ es) there = by (bytes_eq name e.0) there (replaced_there es)
    where
      by : (b : Bool) → is_some (cond b (Some e.1) (value_of es name)) ≡ true
          → (is_some (value_of es name) ≡ true
          → replaced es name value ≡ insert_entry bytes_eq es name value)
          → (if b then (e.0, value) ∷ es else e ∷ replaced es name value)
          ≡ (if b then (e.0, value) ∷ es else e ∷ insert_entry bytes_eq es name value)
      by true found rest = refl
      by false found rest = ap (λ xs. e ∷ xs) (rest found)

  -- where it is not, all stays
  pub replaced_absent : (es : List (List ℕ × V)) → is_some (value_of es name) ≡ false
      → replaced es name value ≡ es
  replaced_absent [] absent = refl
  replaced_absent (e ∷ es) absent = by (bytes_eq name e.0) absent (replaced_absent es)
    where
      by : (b : Bool) → is_some (cond b (Some e.1) (value_of es name)) ≡ false
          → (is_some (value_of es name) ≡ false → replaced es name value ≡ es)
          → (if b then (e.0, value) ∷ es else e ∷ replaced es name value) ≡ e ∷ es
      by true found rest = absurd (true≢false found)
      by false none rest = ap (λ xs. e ∷ xs) (rest none)

  -- a write at the place of the name replaces its value
  pub written_is_replaced : (es : List (List ℕ × V)) (at : ℕ)
      → position (bytes_eq name) (keys_of es) ≡ Some at → is_some (value_of es name) ≡ true
      → set_value_at es at value ≡ replaced es name value
  written_is_replaced es at found there =
      sym (replaced_there es there
      ∙ insert_entry-first bytes_eq name value es at
      ((Found-position (bytes_eq name) es at found).first))
