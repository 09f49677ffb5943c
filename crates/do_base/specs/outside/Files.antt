-- What a shelf tells, and the answers of a fetch.
use Rattle.std.specs.Prelude.{◌≡◌, ℕ, ◌+◌, ◌<◌, ◌≤◌, ◌⊎◌, List, [], ◌∷◌, length, Option, Some, None}
use Rattle.std.specs.{Prelude.{Result, Ok, Err, cond}, Option.{ForSome, IsSomeAnd}, Str.bytes_eq}
use Rattle.do_base.specs.{outside.Causes.Rose, declared.outside.shelf.NamedFile.NamedFile}
use Rattle.do_base.specs.declared.outside.shelf.FetchFail.{FetchFail}
use Rattle.do_base.specs.declared.outside.shelf.FetchFail.TheVariants.{Failed, Long, Memory}

-- the bytes of the first file of that name
abbrev pub file_named : List ℕ → List NamedFile → Option (List ℕ)
file_named name [] = None
file_named name (file ∷ files) =
    cond (bytes_eq name file.name) (Some file.bytes) (file_named name files)

-- Why a fetch answers so. That memory ran out has no cause here.
abbrev pub FetchCause : Option (List NamedFile) → ℕ → ℕ → List ℕ → ℕ → Result (List ℕ) FetchFail
    → Type 0
FetchCause told before now name limit (Ok bytes) =
    (length bytes ≤ limit) × ForSome told (λ files. file_named name files ≡ Some bytes)
FetchCause told before now name limit (Err Failed) =
    Rose before now ⊎ IsSomeAnd told (λ files. file_named name files ≡ None)
FetchCause told before now name limit (Err (Long read most)) =
    (read ≡ limit + 1) × (most ≡ limit)
    × ForSome told (λ files. IsSomeAnd (file_named name files) (λ bytes. limit < length bytes))
FetchCause told before now name limit (Err Memory) = Unit {0}
