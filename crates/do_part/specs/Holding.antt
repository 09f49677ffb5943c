-- What holds each object, own or foreign, and what counting names of objects changes.
use Rattle.std.specs.Prelude.{◌≡◌, ◌≢◌, ℕ, ◌+◌, ◌<◌, ◌≤◌, ◌^◌, Some, map as each}
use Rattle.do_base.specs.names.Names.{ObjectName}
use Rattle.do_export.specs.Counts.{IsPositive, count_of}
use Rattle.do_machine.specs.{Objects.object_at, declared.node.Stored.Stored}
use Rattle.do_store.specs.Names.{Stored as Kept, find_stored}
use Rattle.do_part.specs.declared.{holders.Holders.Holders, tally.Tally.Tally}
use Rattle.do_part.specs.declared.tally.Tally.TheVariants.{More, Less}

-- a stored object, without the number of its holders
abbrev pub plain : Kept → Stored
plain o = record { serial = o.serial; class = o.class; slots = o.slots }

-- the most names that are ever counted
abbrev pub most_names : ℕ
most_names = 2 ^ 62

-- these names can be counted: own objects that are named are stored, and no count gets too high
pub record CanCome (h : Holders) (names : ObjectName → ℕ) (size : ℕ) : Type 0 where
  pub own : (n : ℕ) → 0 < names (object_at h.node n)
      → (o : Kept) × (find_stored h.store.objects n ≡ Some o)
      × (o.held + names (object_at h.node n) < 2 ^ 64)
  pub foreign : (o : ObjectName) → o.node ≢ h.node
      → count_of h.imports.uses o.node o.serial + names o < 2 ^ 64
  pub room : size ≤ h.imports.spare
  pub few : h.names + size ≤ most_names

-- these names are counted, so that they can be taken off
pub record CanGo (h : Holders) (names : ObjectName → ℕ) : Type 0 where
  pub own : (n : ℕ) → 0 < names (object_at h.node n)
      → (o : Kept) × (find_stored h.store.objects n ≡ Some o)
      × (names (object_at h.node n) ≤ o.held)
  pub foreign : (o : ObjectName) → o.node ≢ h.node
      → names o ≤ count_of h.imports.uses o.node o.serial

-- these names are counted besides, each as a holder of an own object or a use of a foreign one, and
-- nothing else has changed but room and the number of names that were ever counted
pub record Came (a b : Holders) (names : ObjectName → ℕ) : Type 0 where
  pub own : (n : ℕ) (o : Kept) → find_stored a.store.objects n ≡ Some o
      → find_stored b.store.objects n
      ≡ Some (record o { held = o.held + names (object_at a.node n) })
  pub heap : each plain b.store.objects ≡ each plain a.store.objects
  pub home : b.store.node ≡ a.store.node
  pub next : b.store.next ≡ a.store.next
  pub spare : b.store.spare ≡ a.store.spare
  pub node : b.node ≡ a.node
  pub foreign : (o : ObjectName) → o.node ≢ a.node
      → count_of b.imports.uses o.node o.serial
      ≡ count_of a.imports.uses o.node o.serial + names o
  pub imports : b.imports
      ≡ record a.imports { uses = b.imports.uses; spare = b.imports.spare }

-- these names are counted besides, and took no more room than so many
pub record HasCome (a b : Holders) (lot : ObjectName → ℕ) (size : ℕ) : Type 0 where
  pub came : Came a b lot
  pub positive : IsPositive a.imports.uses → IsPositive b.imports.uses
  pub spare : a.imports.spare ≤ b.imports.spare + size
  pub names : b.names ≡ a.names + size

-- these names are taken off
pub record HasGone (a b : Holders) (lot : ObjectName → ℕ) : Type 0 where
  pub went : Came b a lot
  pub positive : IsPositive a.imports.uses → IsPositive b.imports.uses
  pub spare : a.imports.spare ≤ b.imports.spare
  pub names : b.names ≡ a.names

-- these names, so many, can be counted or taken off
abbrev pub CanTally : Tally → Holders → (ObjectName → ℕ) → ℕ → Type 0
CanTally More h names size = CanCome h names size
CanTally Less h names size = CanGo h names

-- they are counted or taken off
abbrev pub Tallied : Tally → Holders → Holders → (ObjectName → ℕ) → ℕ → Type 0
Tallied More a b names size = HasCome a b names size
Tallied Less a b names size = HasGone a b names

-- all but room is the same
pub record SameHolders (a b : Holders) : Type 0 where
  pub node : b.node ≡ a.node
  pub objects : b.store.objects ≡ a.store.objects
  pub home : b.store.node ≡ a.store.node
  pub next : b.store.next ≡ a.store.next
  pub names : b.names ≡ a.names
  pub imports : b.imports
      ≡ record a.imports { spare = b.imports.spare; links = b.imports.links }
