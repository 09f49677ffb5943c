-- Why a command that runs came to a status.
use Rattle.do_given.specs.declared.status.Status.TheVariants as answer
use Rattle.std.specs.Prelude.{◌≡◌, ◌⊎◌, List, Option, Some}
use Rattle.do_base.specs.declared.outside.shelf.NamedFile.{NamedFile}
use Rattle.do_given.specs.declared.status.Status.{Status}

-- something was given, and what came of it is told by a status
pub record Ran {A : Type 0} (gives : A → Type 0) (ends : A → Status → Type 0) (status : Status)
    : Type 0 where
  pub first : A
  pub given : gives first
  pub ended : ends first status

-- Why a status came: what was given ran and ended so; memory ran out, before or while it ran; a
-- file could not be read; or else what was to be given is refused. Where nothing ran nothing was
-- done.
abbrev pub Because : (ran refuses : Status → Type 0) → (unread nothing : Type 0) → Status → Type 0
Because ran refuses unread nothing answer.Ok = ran answer.Ok
Because ran refuses unread nothing (answer.TurnsSpent n) = ran (answer.TurnsSpent n)
Because ran refuses unread nothing (answer.ChildFailed n end) = ran (answer.ChildFailed n end)
Because ran refuses unread nothing answer.LinkFault = ran answer.LinkFault
Because ran refuses unread nothing answer.WriteFault = ran answer.WriteFault
Because ran refuses unread nothing answer.Memory = nothing ⊎ ran answer.Memory
Because ran refuses unread nothing answer.ReadFault = unread × nothing
Because ran refuses unread nothing status = refuses status × nothing

-- a status is this one, unless a file could not be read or memory ran out
abbrev pub OrNone : Type 0 → Status → Type 0
OrNone wanted status = wanted ⊎ (status ≡ answer.ReadFault) ⊎ (status ≡ answer.Memory)

-- What a command that runs what is given comes to. The shelf tells these files, and what is given,
-- refused or ran is said of what it tells.
pub record ComesTo {A : Type 0} (gives : Option (List NamedFile) → A → Type 0)
    (refuses : Option (List NamedFile) → Status → Type 0) (ends : A → Status → Type 0)
    (unread nothing : Type 0) (told : Option (List NamedFile)) (status : Status) : Type 0 where
  -- why the status came
  pub why : Because (Ran (gives told) ends) (refuses told) unread nothing status
  -- what is refused is answered so
  pub refused : (files : List NamedFile) (st : Status) → told ≡ Some files
      → refuses (Some files) st → OrNone (status ≡ st) status
  -- what is given runs
  pub complete : (files : List NamedFile) (x : A) → told ≡ Some files → gives (Some files) x
      → OrNone (ends x status) status
