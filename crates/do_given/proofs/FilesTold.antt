-- What is answered of a file that the shelf tells.
use Rattle.std.proofs.Common.{◌≡◌, ◌≤◌, ◌<◌, ℕ, List, Option, Some, Result, Ok, Err, length, inl}
use Rattle.std.{proofs.Common.{inr, subst, arith, refl}, specs.Option.{ForSome, IsSomeAnd}}
use Rattle.do_base.specs.{outside.Files.file_named, declared.outside.shelf.NamedFile.NamedFile}
use Rattle.do_given.specs.{declared.status.Status.Status, Files.{IsFile, IsLong}}
use Rattle.do_given.specs.Reading.{HasText, NamesNone, OrMemory, OrUnread}

-- a file that was read is the one that is told
pub fits_as_read : (told : Option (List NamedFile)) (files : List NamedFile)
    (name read bytes : List ℕ) (most : ℕ)
    → ForSome told (λ fs. file_named name fs ≡ Some read) → told ≡ Some files
    → IsFile (Some files) name most bytes → OrUnread (Ok bytes) (Ok read)
fits_as_read told files name read bytes most found is file =
    let there : file_named name files ≡ Some read = found files is in
    let given : file_named name files ≡ Some bytes = file.named files refl in
    inl (cc)

-- a file that was read is none that is told to be too long
pub long_not_read : (told : Option (List NamedFile)) (files : List NamedFile)
    (name read : List ℕ) (most : ℕ) (status : Status)
    → ForSome told (λ fs. file_named name fs ≡ Some read) → told ≡ Some files
    → length read ≤ most → IsLong (Some files) name most status → ⊥
long_not_read told files name read most status found is within long =
    let over : most < length read =
    subst (λ f. IsSomeAnd f (λ bytes. most < length bytes)) (found files is)
    (long.longer files refl) in
    omega (arith, within, over)

-- a file that is too long is none that is told to fit
pub fits_not_long : (told : Option (List NamedFile)) (files : List NamedFile)
    (name bytes : List ℕ) (most : ℕ)
    → ForSome told (λ fs. IsSomeAnd (file_named name fs) (λ read. most < length read))
    → told ≡ Some files → IsFile (Some files) name most bytes → ⊥
fits_not_long told files name bytes most found is file =
    let over : most < length bytes =
    subst (λ f. IsSomeAnd f (λ read. most < length read)) (file.named files refl)
    (found files is) in
    omega (arith, file.short, over)

-- what must be answered unless memory ran out must be answered unless a file is unread too
pub or_unread : {A : Type 0} (wanted result : Result A Status)
    → OrMemory wanted result → OrUnread wanted result
or_unread wanted result (inl e) = inl e
or_unread wanted result (inr e) = inr (inr e)

-- what was read is what must be
pub read_is : {A : Type 0} (read wanted : A) → OrUnread (Ok wanted) (Ok read) → wanted ≡ read
read_is read wanted (inl e) = cc
read_is read wanted (inr (inl e)) = absurd (cc)
read_is read wanted (inr (inr e)) = absurd (cc)

-- what was read is no refusal
pub no_err : {A : Type 0} (x : A) (status : Status) → OrUnread (Err status) (Ok x) → ⊥
no_err x status (inl e) = cc
no_err x status (inr (inl e)) = cc
no_err x status (inr (inr e)) = cc

-- a text that is read must be answered as its bytes are
pub text_answered : {A B : Type 0} (reads : List ℕ → B → Type 0) (files : List NamedFile)
    (name read : List ℕ) (most : ℕ) (answer : B → Result A Status) (result : Result A Status)
    → ((bytes : List ℕ) → IsFile (Some files) name most bytes → OrUnread (Ok bytes) (Ok read))
    → ((x : B) → reads read x → OrUnread (answer x) result)
    → (x : B) → HasText reads (Some files) name most x → OrUnread (answer x) result
text_answered reads files name read most answer result fits answers x has =
    answers x (subst (λ b. reads b x) (read_is read has.bytes (fits has.bytes has.file))
    has.is_read)

-- a file that is too long or refused must be answered as its bytes are
pub none_answered : {A : Type 0} (refuses : List ℕ → Status → Type 0) (files : List NamedFile)
    (name read : List ℕ) (most : ℕ) (result : Result A Status)
    → ((bytes : List ℕ) → IsFile (Some files) name most bytes → OrUnread (Ok bytes) (Ok read))
    → ((status : Status) → IsLong (Some files) name most status
    → OrUnread {A = List ℕ} (Err status) (Ok read))
    → ((status : Status) → refuses read status → OrUnread (Err status) result)
    → (status : Status) → NamesNone refuses (Some files) name most status
    → OrUnread (Err status) result
none_answered refuses files name read most result fits long answers status (inl is_long) =
    absurd (no_err read status (long status is_long))
none_answered refuses files name read most result fits long answers status (inr has) =
    text_answered refuses files name read most Err result fits answers status has
