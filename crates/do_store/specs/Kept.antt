-- What is left once nothing more can be taken out.
use Rattle.std.specs.Prelude.{◌≡◌, ◌≢◌, ◌⊎◌, ℕ, ◌<◌, List, [], Some, Contains, IsSome, is_some}
use Rattle.std.specs.Prelude.{Bool, true}
use Rattle.do_store.specs.Names.{Stored, named_in, values_name, find_stored, replaced}

-- each of these serials is stored, and held from outside or named by a slot of one of these
abbrev pub HoldsUp : ℕ → List Stored → (ℕ → Bool) → Type 0
HoldsUp node objects keep =
    (n : ℕ) → keep n ≡ true → (o : Stored) × (find_stored objects n ≡ Some o)
    × ((0 < o.held)
    ⊎ ((p : Stored) × Contains objects p × (keep p.serial ≡ true)
    × (0 < values_name node n p.slots)))

-- objects were taken out, one after the other, each with no holder and named by no slot then
pub data Swept (node : ℕ) : List Stored → List Stored → Type 0 where
  none : (xs : List Stored) → Swept node xs xs
  more : (xs ys : List Stored) (n : ℕ) (o : Stored) → find_stored xs n ≡ Some o → o.held ≡ 0
      → named_in node n xs ≡ 0 → Swept node (replaced n (λ s. []) xs) ys → Swept node xs ys

-- nothing more can be taken out
abbrev pub NoneIdle : ℕ → List Stored → Type 0
NoneIdle node objects = (n : ℕ) (o : Stored) → find_stored objects n ≡ Some o → o.held ≡ 0
    → named_in node n objects ≢ 0

-- what is left holds itself up, and holds every set of the first objects that holds itself up
pub record LeavesKept (node : ℕ) (first left : List Stored) : Type 0 where
  pub holds_up : HoldsUp node left (λ n. is_some (find_stored left n))
  pub greatest : (keep : ℕ → Bool) → HoldsUp node first keep → (n : ℕ) → keep n ≡ true
      → IsSome (find_stored left n)
