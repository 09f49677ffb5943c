-- The rows of a map, by rising key.
use Rattle.std.specs.Prelude.{ℕ, ◌+◌, ◌≤◌, not, Vec, vec_len, vec_capacity, cond, List, [], ◌∷◌}
use Rattle.std.specs.Prelude.{Some, None, Option, refl, length}
use Rattle.std.specs.Coded.{Coded, code_by, coded×, coded_ℕ, coded_list}
use Rattle.std.specs.{Ordering.{eq_by_cmp, is_lt}, List.filter, declared.cmp.Ordering.Ordering}

-- the keys and their values, and how many more keys fit with no memory taken
pub record Rows (K V : Type 0) : Type 0 where
  pub rows : List (K × V)
  pub spare : ℕ

-- how such a map is coded, by its rows and its room
abbrev pub rows_code : {K V : Type 0} → Coded K → Coded V → Coded (Rows K V)
rows_code {K} {V} k v =
    code_by (List (K × V) × ℕ) (coded× (coded_list (coded× k v)) coded_ℕ) (λ r. (r.rows, r.spare))
    (λ p. record { rows = p.0; spare = p.1 }) (λ _. refl)

-- each row's places have room among the free ones once it is taken out
abbrev pub HasPlaces : {X Y A : Type 0} → List X → Vec Y A → Type 0
HasPlaces rows free = length rows + vec_len free ≤ vec_capacity free

module _ {K V : Type 0} (R : K → K → Ordering) (k : K) where
  -- the rows of all other keys
  abbrev pub without : List (K × V) → List (K × V)
  without = filter (λ e. not (eq_by_cmp R k e.0))

  -- the first row whose key is k or above it
  abbrev pub first_from : List (K × V) → Option (K × V)
  first_from [] = None
  first_from (e ∷ es) = cond (is_lt (R e.0 k)) (first_from es) (Some e)
