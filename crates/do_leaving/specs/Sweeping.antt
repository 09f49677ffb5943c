-- What a sweep takes out, and which uses go with it.
use Rattle.std.specs.Prelude.{◌≡◌, ℕ, ◌==◌, not, List, [], ◌∷◌, Some, map, filter}
use Rattle.do_base.specs.names.Names.{ObjectName}
use Rattle.do_store.specs.{Kept.NoneIdle, Names.{Stored, Objects, named_in, find_stored, replaced}}
use Rattle.do_import.specs.Imported.{Imported, all_off}
use Rattle.do_machine.specs.held.Refers.{heap_objects}
use Rattle.do_leaving.specs.Counted.{heap_of, serial_of}

-- the foreign ones of some objects
abbrev pub foreign : ℕ → List ObjectName → List ObjectName
foreign node = filter (λ o. not (o.node == node))

-- the foreign objects that the slots of stored objects name
abbrev pub foreign_names : ℕ → List Stored → List ObjectName
foreign_names node objects = foreign node (heap_objects (heap_of objects))

-- the imports without a use for each of some objects
abbrev pub unused : Imported → List ObjectName → ℕ → Imported
unused old os spare = record old { uses = all_off old.uses os; spare = spare }

-- these objects were taken out one after the other, each with no holder and named by no slot then
pub data TakenOut (node : ℕ) : List Stored → List Stored → List Stored → Type 0 where
  -- none is taken out
  none : (xs : List Stored) → TakenOut node xs [] xs
  -- one is taken out, and then others
  more : (xs gone ys : List Stored) (o : Stored) → find_stored xs o.serial ≡ Some o → o.held ≡ 0
      → named_in node o.serial xs ≡ 0 → TakenOut node (replaced o.serial (λ s. []) xs) gone ys
      → TakenOut node xs (o ∷ gone) ys

-- objects are taken out until none is left that could be, with the uses of foreign ones
pub record Sweeps (old new : Objects) (before after : Imported) (freed : List ℕ) : Type 0 where
  pub gone : List Stored
  pub taken : TakenOut old.node old.objects gone new.objects
  pub none_idle : NoneIdle old.node new.objects
  pub serials : freed ≡ map serial_of gone
  pub uses : after ≡ unused before (foreign_names old.node gone) after.spare
