-- What contracts see of a site.
use Rattle.std.specs.{Prelude.{List, refl}, Coded.{Coded, code_by, coded×}}
use Rattle.do_class.specs.Class.{Class}
use Rattle.do_site.specs.declared.work.Work.{Work}

-- the classes of a site, what decides its acts, and what its steps change
pub record Sited (B : Type 0) : Type 0 where
  pub table : List Class
  pub acts : B
  pub work : Work

-- how a site is coded, if its fields are coded so
abbrev pub sited_code : {B : Type 0} → Coded (List Class) → Coded B → Coded Work → Coded (Sited B)
sited_code {B} classes acts work = code_by (List Class × (B × Work))
    (coded× classes (coded× acts work)) (λ s. (s.table, (s.acts, s.work)))
    (λ t. record { table = t.0; acts = t.1.0; work = t.1.1 }) (λ _. refl)
