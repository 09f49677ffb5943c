-- A search for a file by its name, step by step.
use Rattle.std.proofs.Common.{◌≡◌, ℕ, ◌+◌, ◌<◌, List, get_or, drop, length, Some, Bool, true, false}
use Rattle.std.proofs.{Common.{refl, add-one}, Math.Seq.drop-cons, lemmas.Slice.Eq.bytes_eq-Decides}
use Rattle.std.specs.Str.{bytes_eq}
use Rattle.do_base.specs.{outside.Files.file_named, declared.outside.shelf.NamedFile.NamedFile}

-- the test is true at equal texts, and false at others
bytes_eq-same : (xs ys : List ℕ) → xs ≡ ys → bytes_eq xs ys ≡ true
bytes_eq-same xs ys e = (bytes_eq-Decides xs ys).1 e

bytes_eq-other : (xs ys : List ℕ) (b : Bool) → bytes_eq xs ys ≡ b → (xs ≡ ys → ⊥) → b ≡ false
bytes_eq-other xs ys true e other = absurd (other ((bytes_eq-Decides xs ys).0 e))
bytes_eq-other xs ys false e other = refl

-- the file at hand has the name
pub file_named_here : (name : List ℕ) (files : List NamedFile) (i : ℕ) (file : NamedFile)
    → i < length files → file ≡ get_or files i file → name ≡ file.name
    → file_named name (drop i files) ≡ Some file.bytes
file_named_here name files i file lt is same =
    rw (drop-cons files i file lt, ← is, bytes_eq-same name file.name same)

-- the file at hand has another name, so the search goes on behind it
pub file_named_later : (name : List ℕ) (files : List NamedFile) (i : ℕ) (file : NamedFile)
    → i < length files → file ≡ get_or files i file → (name ≡ file.name → ⊥)
    → file_named name (drop (i + 1) files) ≡ file_named name (drop i files)
file_named_later name files i file lt is other =
    rw (drop-cons files i file lt, ← is, bytes_eq-other name file.name _ refl other, add-one)
