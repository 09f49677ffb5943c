-- The files that a command reads.
use Rattle.std.specs.Prelude.{◌≡◌, ℕ, ◌+◌, ◌<◌, ◌≤◌, ◌⊎◌, List, length, Option, Some, None}
use Rattle.std.specs.Option.{ForSome, IsSomeAnd}
use Rattle.do_base.specs.outside.{Causes.Rose, Files.file_named}
use Rattle.do_base.specs.declared.outside.shelf.NamedFile.{NamedFile}
use Rattle.do_given.specs.declared.status.Status.{Status, TheVariants.TooLong}

-- the most bytes of a world's file
abbrev pub most_of_world : ℕ
most_of_world = 4194304

-- the most bytes of a schedule's file
abbrev pub most_of_schedule : ℕ
most_of_schedule = 67108864

-- the most bytes of a file of starts, and of a plan's
abbrev pub most_of_starts : ℕ
most_of_starts = 1048576

-- the most bytes of a record's file
abbrev pub most_of_record : ℕ
most_of_record = 16777216

-- the file of a name has these bytes, where the shelf tells its files, and no more than so many
pub record IsFile (told : Option (List NamedFile)) (name : List ℕ) (most : ℕ)
    (bytes : List ℕ) : Type 0 where
  pub named : ForSome told (λ files. file_named name files ≡ Some bytes)
  pub short : length bytes ≤ most

-- the file of a name has more bytes than may be, where the shelf tells its files; one more was read
pub record IsLong (told : Option (List NamedFile)) (name : List ℕ) (most : ℕ)
    (status : Status) : Type 0 where
  pub longer : ForSome told
      (λ files. IsSomeAnd (file_named name files) (λ bytes. most < length bytes))
  pub tells : status ≡ TooLong (most + 1) most

-- the shelf's count of faults rose, or it tells its files and has none of that name
abbrev pub IsUnread : Option (List NamedFile) → ℕ → ℕ → List ℕ → Type 0
IsUnread told before now name =
    Rose before now ⊎ IsSomeAnd told (λ files. file_named name files ≡ None)
