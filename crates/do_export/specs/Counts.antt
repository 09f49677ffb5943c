-- How many names of its objects a node has sent to its peers and not had back.
use Rattle.std.specs.FinMap as map
use Rattle.std.specs.Prelude.{◌≡◌, ℕ, not, ◌+◌, ◌-◌, ◌<◌, ◌≤◌, ◌==◌, if◌then◌else◌, None, IsSome, T}
use Rattle.std.specs.{Prelude.{true, List, refl}, Option.unwrap_or}
use Rattle.std.specs.{Ordering.{nat_cmp, on, then_cmp}, declared.cmp.Ordering.Ordering}
use Rattle.std.specs.Coded.{Coded, code_by, coded×, coded_ℕ}

-- entries are in the order of their peers' ports, and of their serials at one peer
abbrev pub entry_cmp : ℕ × ℕ → ℕ × ℕ → Ordering
entry_cmp = then_cmp (on (λ e. e.0) nat_cmp) (on (λ e. e.1) nat_cmp)

-- the count of each entry, which is a peer and an own serial
abbrev pub Counts : Type 0
Counts = map.FinMap entry_cmp ℕ

-- the counts, and how many more entries fit with no memory taken
pub record Exported : Type 0 where
  pub counts : Counts
  pub spare : ℕ

-- how the counts are coded, with their room
abbrev pub exported_code : Coded Exported
exported_code = code_by (Counts × ℕ) (coded× (map.code (coded× coded_ℕ coded_ℕ) coded_ℕ) coded_ℕ)
    (λ e. (e.counts, e.spare)) (λ p. record { counts = p.0; spare = p.1 }) (λ _. refl)

-- the count of an entry, 0 where there is none
abbrev pub count_of : Counts → ℕ → ℕ → ℕ
count_of counts peer serial = unwrap_or (map.get counts (peer, serial)) 0

-- no entry counts 0
abbrev pub IsPositive : Counts → Type 0
IsPositive counts = (k : ℕ × ℕ) → map.contains_key counts k ≡ true → 0 < count_of counts k.0 k.1

-- rows of entries stand in their order, and none counts 0
pub record AreEntries (rows : List ((ℕ × ℕ) × ℕ)) : Type 0 where
  pub sorted : T (map.is_sorted entry_cmp rows)
  pub positive : IsPositive (map.from_sorted rows)

-- the counts once an object was named to a peer
abbrev pub raised : Counts → ℕ → ℕ → Counts
raised counts peer serial = map.insert counts (peer, serial) (count_of counts peer serial + 1)

-- the counts once a peer gave n names back: an entry at 0 is gone
abbrev pub lowered : Counts → ℕ → ℕ → ℕ → Counts
lowered counts peer serial n = let had = count_of counts peer serial in
    if had == n then map.remove counts (peer, serial)
    else map.insert counts (peer, serial) (had - n)

module _ {V : Type 0} where
  -- the entries of all other peers
  abbrev pub others_of : map.FinMap entry_cmp V → ℕ → map.FinMap entry_cmp V
  others_of entries peer = map.retain_keys entries (λ e. not (e.0 == peer))

  -- the peer has no entry
  abbrev pub HasNone : map.FinMap entry_cmp V → ℕ → Type 0
  HasNone entries peer = (s : ℕ) → map.get entries (peer, s) ≡ None

  -- the peer's entry with the lowest serial
  pub record IsLowest (entries : map.FinMap entry_cmp V) (peer serial : ℕ) : Type 0 where
    pub there : IsSome (map.get entries (peer, serial))
    pub none_below : (s : ℕ) → s < serial → map.get entries (peer, s) ≡ None

  -- the peer has no entry from a serial on
  abbrev pub HasNoneFrom : map.FinMap entry_cmp V → ℕ → ℕ → Type 0
  HasNoneFrom entries peer start = (s : ℕ) → start ≤ s → map.get entries (peer, s) ≡ None

  -- the peer's entry with the lowest serial from a serial on
  pub record IsLowestFrom (entries : map.FinMap entry_cmp V) (peer start serial : ℕ) : Type 0
    where
      pub there : IsSome (map.get entries (peer, serial))
      pub at_start : start ≤ serial
      pub none_below : (s : ℕ) → start ≤ s → s < serial → map.get entries (peer, s) ≡ None
