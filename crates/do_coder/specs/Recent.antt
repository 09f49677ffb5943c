-- The table of recent names, as a list of at most 256 pairs of serial and class, the oldest first.
use Rattle.std.specs.Prelude.{◌≡◌, ◌==◌, ◌&&◌, ℕ, suc, ◌-◌, ◌<◌, ◌≤◌, Bool, List, [], ◌∷◌, ◌++◌}
use Rattle.std.specs.{Prelude.{length, drop, Option, Some, None, if◌then◌else◌}, Option.option_map}
use Rattle.do_coder.specs.declared.recent.pair.Pair.{Pair}
use Rattle.do_class.specs.declared.packet.Name.{Name, TheVariants.{Mine, Yours, Lent}}

-- an object by its serial and its class
abbrev pub pair : ℕ → ℕ → Pair
pair serial class = record { serial = serial; class = record { 0 = class } }

abbrev pub same_pair : Pair → Pair → Bool
same_pair p q = (p.serial == q.serial) && (p.class.0 == q.class.0)

-- the place of a pair, from 0 at the oldest
abbrev pub place_in : Pair → List Pair → Option ℕ
place_in p [] = None
place_in p (q ∷ table) = if same_pair q p then Some 0 else option_map suc (place_in p table)

-- the newest of a list
abbrev pub newest : ℕ → List Pair → List Pair
newest limit table = drop (length table - limit) table

-- the table after a pair that stands in it, or that doesn't
abbrev pub after_pair : Option ℕ → List Pair → Pair → List Pair
after_pair (Some k) table p = table
after_pair None table p = newest 256 (table ++ p ∷ [])

-- the table after a name
abbrev pub after_name : List Pair → Name → List Pair
after_name table (Mine serial class) =
    after_pair (place_in (record { serial = serial; class = class }) table) table (record {
      serial =
          serial;
      class = class;
    })
after_name table (Yours serial) = table
after_name table (Lent oid class token) = table

-- no pair stands behind one like it
abbrev pub AllDiffer : List Pair → Type 0
AllDiffer [] = Unit {0}
AllDiffer (p ∷ table) = (place_in p table ≡ None) × AllDiffer table

-- a serial or a token
abbrev pub IsSerial : ℕ → Type 0
IsSerial n = (1 ≤ n) × (n ≤ 9223372036854775807)

-- a pair of a class table with so many classes
abbrev pub IsKnown : ℕ → Pair → Type 0
IsKnown classes p = IsSerial p.serial × (p.class.0 < classes)

-- what a table always is
pub record IsRecent (table : List Pair) : Type 0 where
  pub few : length table ≤ 256
  pub differ : AllDiffer table
