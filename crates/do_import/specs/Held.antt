-- The foreign objects that a node received and that it uses, and which of them may leave.
use Rattle.std.specs.FinMap as map
use Rattle.std.specs.Prelude.{◌≡◌, ◌≤◌, ◌+◌, length, ℕ, Bool, true, false, not, ◌&&◌, T, List}
use Rattle.std.specs.{Prelude.{is_some, refl}, Coded.{Coded, code_by, coded×, coded_ℕ}}
use Rattle.std.specs.{FinMap.{find, is_sorted}, declared.cmp.Ordering.TheVariants.Less}
use Rattle.do_export.specs.Counts.{Counts, IsPositive, entry_cmp}

-- how often each foreign object was received and is used, how many more can be used with no memory
-- taken, and how many more be received
pub record Held : Type 0 where
  pub received : Counts
  pub uses : Counts
  pub spare : ℕ
  pub places : ℕ

-- how the counts are coded, with their room
abbrev pub held_code : Coded Held
held_code = code_by (Counts × (Counts × (ℕ × ℕ)))
    (coded× (map.code (coded× coded_ℕ coded_ℕ) coded_ℕ)
    (coded× (map.code (coded× coded_ℕ coded_ℕ) coded_ℕ) (coded× coded_ℕ coded_ℕ)))
    (λ h. (h.received, (h.uses, (h.spare, h.places))))
    (λ p. record { received = p.0; uses = p.1.0; spare = p.1.1.0; places = p.1.1.1 }) (λ _. refl)

-- an object may leave that was received and is not used
abbrev pub may_leave : Counts → Counts → ℕ × ℕ → Bool
may_leave received uses q = map.contains_key received q && not (map.contains_key uses q)

-- the thread has just the objects that may leave
pub record IsThread {V : Type 0} (received uses : Counts) (thread : List ((ℕ × ℕ) × V)) : Type 0
  where
    pub sorted : T (is_sorted entry_cmp thread)
    pub each : (q : ℕ × ℕ) → is_some (find entry_cmp q thread) ≡ may_leave received uses q

-- the thread, with room for each object that was received; no use is counted as 0
pub record IsRoomy {V : Type 0} (received uses : Counts) (thread : List ((ℕ × ℕ) × V))
    (spare : ℕ) : Type 0 where
  pub threads : IsThread received uses thread
  pub room : map.len received ≤ length thread + spare
  pub used : IsPositive uses

-- no object may leave
abbrev pub NoneLeaves : Counts → Counts → Type 0
NoneLeaves received uses = (q : ℕ × ℕ) → may_leave received uses q ≡ false

-- the lowest object that may leave
pub record IsLowestLeaving (received uses : Counts) (o : ℕ × ℕ) : Type 0 where
  pub leaves : may_leave received uses o ≡ true
  pub none_below : (q : ℕ × ℕ) → entry_cmp q o ≡ Less → may_leave received uses q ≡ false
