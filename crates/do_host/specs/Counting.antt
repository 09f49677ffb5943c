-- An output with a count of faults, and the bytes that it took.
use Rattle.std.specs.{Prelude.{List, refl, ℕ}, Coded.{Coded, code_by, coded×, coded_list, coded_ℕ}}

-- the output, how many puts failed, and the bytes that were counted as taken by the others
pub record Counting (W : Type 0) : Type 0 where
  pub output : W
  pub faults : ℕ
  pub taken : List ℕ

-- how it is coded, by all three
abbrev pub counting_code : {W : Type 0} → Coded W → Coded (Counting W)
counting_code {W} code =
    code_by (W × (ℕ × List ℕ)) (coded× code (coded× coded_ℕ (coded_list coded_ℕ)))
    (λ c. (c.output, (c.faults, c.taken)))
    (λ p. record { output = p.0; faults = p.1.0; taken = p.1.1 }) (λ _. refl)
