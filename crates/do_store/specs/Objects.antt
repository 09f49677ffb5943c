-- The stored objects as a list by rising serial.
use Rattle.std.specs.{Prelude.{ℕ, cond, eqb, List, [], ◌∷◌, Option, Some, None}, List.flat_map}
use Rattle.do_base.specs.names.Names.{ObjectName}
use Rattle.do_store.specs.declared.object.Object.{Object}

-- the objects, the next serial, and how many more fit
pub record Stock : Type 0 where
  pub objects : List Object
  pub next : ℕ
  pub spare : ℕ

-- the object with a serial
abbrev pub stored_at : List Object → ℕ → Option Object
stored_at [] serial = None
stored_at (o ∷ os) serial = cond (eqb o.serial serial) (Some o) (stored_at os serial)

-- the list in which these stand in the place of the object with a serial
abbrev pub edit : ℕ → (Object → List Object) → List Object → List Object
edit serial by = flat_map (λ o. cond (eqb o.serial serial) (by o) (o ∷ []))

-- an object's name, at its home
abbrev pub name_of : ℕ → Object → ObjectName
name_of node o = record { node = node; serial = o.serial }
