-- What a contract sees of `Cells`.
use Rattle.std.specs.{Prelude.{ℕ, List, refl}, Coded.{Coded, code_by, coded×, coded_ℕ, coded_list}}

-- the items of each queue, oldest first, and how many more fit with no memory taken
pub record Pool (T : Type 0) : Type 0 where
  pub queues : List (List T)
  pub spare : ℕ

-- how a pool is coded, by its queues and its room
abbrev pub pool_code : {T : Type 0} → Coded T → Coded (Pool T)
pool_code {T} code = code_by (List (List T) × ℕ) (coded× (coded_list (coded_list code)) coded_ℕ)
    (λ p. (p.queues, p.spare)) (λ p. record { queues = p.0; spare = p.1 }) (λ _. refl)
