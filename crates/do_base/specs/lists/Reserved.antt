-- A list with room for more.
use Rattle.std.specs.{Prelude.{ℕ, List, refl}, Coded.{Coded, code_by, coded×, coded_ℕ, coded_list}}

-- the items, and how many more fit with no memory taken
pub record Reserved (T : Type 0) : Type 0 where
  pub items : List T
  pub spare : ℕ

-- how such a list is coded, by its items and its room
abbrev pub reserved_code : {T : Type 0} → Coded T → Coded (Reserved T)
reserved_code {T} code = code_by (List T × ℕ) (coded× (coded_list code) coded_ℕ)
    (λ r. (r.items, r.spare)) (λ p. record { items = p.0; spare = p.1 }) (λ _. refl)
