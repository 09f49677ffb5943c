-- How the objects lie in a slab, and the pairs that lead to them.
use Rattle.std.specs.Prelude.{ℕ, ◌+◌, ◌≤◌, Bool, false, cond, eqb, List, [], ◌∷◌, Option, Some}
use Rattle.std.specs.{Prelude.{None, Vec, vec_len, vec_capacity}, List.flat_map}
use Rattle.std.specs.declared.alloc.Global.{Global}
use Rattle.slab.specs.Slab.{Slab, get, slab_len}
use Rattle.do_store.specs.{Objects.Stock, declared.object.{Object.Object, Pair.Pair}}

-- the keys rise, from the first bound on and below the last
abbrev pub Rising : {X : Type 0} → (X → ℕ) → ℕ → List X → ℕ → Type 0
Rising key low [] top = low ≤ top
Rising key low (x ∷ xs) top = (low ≤ key x) × Rising key (key x + 1) xs top

-- the serial of a pair
abbrev pub pair_serial : Pair → ℕ
pair_serial p = p.serial

-- the serial of an object
abbrev pub object_serial : Object → ℕ
object_serial o = o.serial

-- the object in a slot, where it has this serial
abbrev pub live_in : ℕ → Option Object → List Object
live_in serial None = []
live_in serial (Some o) = cond (eqb o.serial serial) (o ∷ []) []

-- the object that a pair leads to, where it is the pair's
abbrev pub live : (ℕ → Option Object) → Pair → List Object
live at p = live_in p.serial (at p.key)

-- whether a pair leads to its object
abbrev pub is_live_in : ℕ → Option Object → Bool
is_live_in serial None = false
is_live_in serial (Some o) = eqb o.serial serial

-- whether a pair leads to its object
abbrev pub is_live : (ℕ → Option Object) → Pair → Bool
is_live at p = is_live_in p.serial (at p.key)

-- the objects that the pairs lead to
abbrev pub listed : (ℕ → Option Object) → List Pair → List Object
listed at = flat_map (live at)

-- what the slots and pairs show: the listed objects
abbrev pub stock_of : Slab Object → List Pair → ℕ → ℕ → Stock
stock_of slots pairs next spare =
    record { objects = listed (get slots) pairs; next = next; spare = spare }

-- the pairs rise, and slots and pairs have room for the spare objects
pub record Orderly (slots : Slab Object) (pairs : Vec Pair Global) (next spare : ℕ) : Type 0 where
  pub rising : Rising pair_serial 0 pairs.items next
  pub slot_room : slab_len slots + spare ≤ slots.capacity
  pub pair_room : vec_len pairs + spare ≤ vec_capacity pairs
