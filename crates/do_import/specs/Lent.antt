-- The lends of a node that are not settled.
use Rattle.std.specs.FinMap as map
use Rattle.std.specs.{Prelude.{ℕ, refl}, Coded.{Coded, code_by, coded×, coded_ℕ}}
use Rattle.do_base.specs.names.Names.{ObjectName}
use Rattle.do_export.specs.Counts.{entry_cmp}

-- the object of each lend, which is a borrower and a token's number, the next number, and how many
-- more lends fit with no memory taken
pub record Lent : Type 0 where
  pub lends : map.FinMap entry_cmp ObjectName
  pub next : ℕ
  pub spare : ℕ

-- how an object's name is coded
abbrev pub name_code : Coded ObjectName
name_code = code_by (ℕ × ℕ) (coded× coded_ℕ coded_ℕ) (λ o. (o.node, o.serial))
    (λ p. record { node = p.0; serial = p.1 }) (λ _. refl)

-- how the lends are coded, with the next number and their room
abbrev pub lent_code : Coded Lent
lent_code = code_by (map.FinMap entry_cmp ObjectName × (ℕ × ℕ))
    (coded× (map.code (coded× coded_ℕ coded_ℕ) name_code) (coded× coded_ℕ coded_ℕ))
    (λ l. (l.lends, (l.next, l.spare))) (λ p. record { lends = p.0; next = p.1.0; spare = p.1.1 })
    (λ _. refl)
