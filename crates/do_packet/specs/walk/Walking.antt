-- What a walk over values has met, and what it has made of them.
use Rattle.std.specs.Prelude.{◌≡◌, List, ◌++◌}
use Rattle.do_base.specs.names.Names.{ObjectName}
use Rattle.do_packet.specs.{Met.met, declared.packing.walk.Walk.Walk}

-- ys begins as xs
abbrev pub IsPrefix : List ObjectName → List ObjectName → Type 0
IsPrefix xs ys = (rest : List ObjectName) × (ys ≡ xs ++ rest)

-- after more objects are met, what is made is what is wanted, whatever is met later
pub record Walked {X : Type 0} (copied named : List ObjectName)
    (want : List ObjectName → List ObjectName → X) (old new : Walk) (made : X) : Type 0 where
  pub copies : new.copies ≡ met old.copies copied
  pub names : new.names ≡ met old.names named
  pub stands : (copies names : List ObjectName) → IsPrefix new.copies copies →
      IsPrefix new.names names → made ≡ want copies names
