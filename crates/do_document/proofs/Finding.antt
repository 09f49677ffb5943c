-- How the faults of several checks come to the first.
use Rattle.std.proofs.Common.{◌≡◌, ℕ, ◌+◌, ◌<◌, ◌≤◌, List, length, map, take, drop, get_or, Option}
use Rattle.std.{proofs.Common.{Some, None, Bool, sym, ◌∙◌}, specs.Option.option_or}
use Rattle.std.proofs.lemmas.List.{drop_more, map_more, drop_all}
use Rattle.toml.specs.Data.{Data, Members, get_member, as_str}
use Rattle.do_document.specs.Checks.{first_behind, misfit, missing, required, wrong_unless}
use Rattle.do_document.specs.{Document.text_at, Paths.path, declared.place.Place.Place}
use Rattle.do_document.specs.declared.fault.WorldFault.{WorldFault, TheVariants.Missing}

-- behind no fault the next one counts
pub or_none : (a b : Option WorldFault) → a ≡ None → option_or a b ≡ b
or_none a b e = rw e

-- a fault counts before those behind it
pub or_some : (a b : Option WorldFault) (f : WorldFault) → a ≡ Some f → option_or a b ≡ Some f
or_some a b f e = rw e

-- a key that is there is not missing
pub missing_there : (place : Place) (key : List ℕ) (t : Members) (d : Data)
    → get_member key t ≡ Some d → missing place key t ≡ None
unfolding missing
missing_there place key t d e = rw e

-- a key that is not there is missing
pub missing_absent : (place : Place) (key : List ℕ) (t : Members)
    → get_member key t ≡ None → missing place key t ≡ Some (Missing (path place key))
unfolding missing
missing_absent place key t e = rw e

-- what is there is tested
pub misfit_there : (place : Place) (key : List ℕ) (good : Data → Bool) (t : Members) (d : Data)
    → get_member key t ≡ Some d
    → misfit place key good t ≡ wrong_unless (good d) (path place key)
unfolding misfit
misfit_there place key good t d e = rw e

-- what is not there is not tested
pub misfit_absent : (place : Place) (key : List ℕ) (good : Data → Bool) (t : Members)
    → get_member key t ≡ None → misfit place key good t ≡ None
unfolding misfit
misfit_absent place key good t e = rw e

-- what must be there, and is, is tested
pub required_there : (place : Place) (key : List ℕ) (good : Data → Bool) (t : Members) (d : Data)
    → get_member key t ≡ Some d
    → required place key good t ≡ wrong_unless (good d) (path place key)
unfolding required missing misfit
required_there place key good t d e = rw e

-- what must be there, and is not, is missing
pub required_missing : (place : Place) (key : List ℕ) (good : Data → Bool) (t : Members)
    (f : WorldFault) → missing place key t ≡ Some f → required place key good t ≡ Some f
unfolding required
required_missing place key good t f e = rw e

-- the text at a key is that of what is there
pub text_there : (key : List ℕ) (t : Members) (d : Data) (s : List ℕ)
    → get_member key t ≡ Some d → as_str d ≡ Some s → text_at key t ≡ Some s
unfolding text_at
text_there key t d s e f = rw (e, f)

-- one member of a list, and those behind it
turn : {A B : Type 0} (check : List B → B → Option WorldFault) (v : A → B) (xs : List A) (i : ℕ)
    (d : A) → i < length xs
    → first_behind check (map v (take i xs)) (map v (drop i xs))
    ≡ option_or (check (map v (take i xs)) (v (get_or xs i d)))
    (first_behind check (map v (take (i + 1) xs)) (map v (drop (i + 1) xs)))
turn check v xs i d h =
    let first = drop_more xs i d h in
    let more = map_more v xs i d h in rw (first, more)

-- a member with no fault leaves the fault of the others
pub turn_good : {A B : Type 0} (check : List B → B → Option WorldFault) (v : A → B) (xs : List A)
    (i : ℕ) (d : A) (all : Option WorldFault) → i < length xs
    → first_behind check (map v (take i xs)) (map v (drop i xs)) ≡ all
    → check (map v (take i xs)) (v (get_or xs i d)) ≡ None
    → first_behind check (map v (take (i + 1) xs)) (map v (drop (i + 1) xs)) ≡ all
turn_good check v xs i d all h so_far good =
    let next = turn check v xs i d h in
    let rest = or_none (check (map v (take i xs)) (v (get_or xs i d)))
    (first_behind check (map v (take (i + 1) xs)) (map v (drop (i + 1) xs))) good in
    sym rest ∙ sym next ∙ so_far

-- a member's fault is the first where none stands before
pub turn_bad : {A B : Type 0} (check : List B → B → Option WorldFault) (v : A → B) (xs : List A)
    (i : ℕ) (d : A) (all : Option WorldFault) (f : WorldFault) → i < length xs
    → first_behind check (map v (take i xs)) (map v (drop i xs)) ≡ all
    → check (map v (take i xs)) (v (get_or xs i d)) ≡ Some f → all ≡ Some f
turn_bad check v xs i d all f h so_far bad =
    let next = turn check v xs i d h in
    let here = or_some (check (map v (take i xs)) (v (get_or xs i d)))
    (first_behind check (map v (take (i + 1) xs)) (map v (drop (i + 1) xs))) f bad in
    sym so_far ∙ next ∙ here

-- behind the last member there is no fault
pub turn_end : {A B : Type 0} (check : List B → B → Option WorldFault) (v : A → B) (xs : List A)
    (i : ℕ) (all : Option WorldFault) → length xs ≤ i
    → first_behind check (map v (take i xs)) (map v (drop i xs)) ≡ all → all ≡ None
turn_end check v xs i all h so_far =
    let none = drop_all i xs h in
    let last : first_behind check (map v (take i xs)) (map v (drop i xs)) ≡ None = rw none in
    sym so_far ∙ last

-- the facts on checks that readers need
pub ruleset checks = (
  or_none,
  or_some,
  missing_there,
  missing_absent,
  misfit_there,
  misfit_absent,
  required_there,
  required_missing,
  text_there,
)
