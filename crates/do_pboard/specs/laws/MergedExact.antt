-- Types with their data are read as they were shown, and only so.
use Rattle.std.proofs.Common.{◌≡◌, ℕ, Bool, true, false, List as Listed, [], ◌∷◌, Option, Some}
use Rattle.std.{proofs.Common.{None, refl, sym, ◌∙◌, ap}, specs.Prelude.{if◌then◌else◌, cond}}
use Rattle.std.{specs.{Map.keys_of, Str.bytes_eq}, proofs.lemmas.Slice.Eq.bytes_eq-Decides}
use Rattle.do_native_acts.specs.laws.KindLaws.{some_same, mapped_of}
use Rattle.do_table.specs.Entries.{value_of, are_distinct}
use Rattle.do_table.specs.laws.TableLaws.{first_alone, same_name}
use Rattle.do_pboard.specs.Core.{Declared, Content, contents, in_front, merged, with_content}

-- a text has its own bytes
own_bytes : (s : Listed ℕ) → bytes_eq s s ≡ true
own_bytes s = (bytes_eq-Decides s s).1 refl

-- the first type of these with data; another one where there is none
abbrev first_kind : Listed ℕ → Listed Content → Listed ℕ
first_kind other [] = other
first_kind other (d ∷ ds) = d.0

-- a type that is not among these is not the first of theirs with data
first_other : (t : Listed ℕ) (ts : Listed Declared) (d : Content) (ds : Listed Content)
    → value_of ts t ≡ None → contents ts ≡ d ∷ ds → bytes_eq t d.0 ≡ false
first_other t [] d ds absent is = cc
first_other t (u ∷ ts) d ds absent is =
    by u.1 (bytes_eq t u.0) refl absent is (first_other t ts d ds)
  where
    by : (content : Option (Listed ℕ)) (b : Bool) → bytes_eq t u.0 ≡ b
        → cond b (Some u.1) (value_of ts t) ≡ None
        → with_content u.0 content (contents ts) ≡ d ∷ ds
        → (value_of ts t ≡ None → contents ts ≡ d ∷ ds → bytes_eq t d.0 ≡ false)
        → bytes_eq t d.0 ≡ false
    by content true same none e later = cc
    by None false other none e later = later none e
    by (Some content) false other none e later =
        ap (λ (xs : Listed Content). bytes_eq t (first_kind u.0 xs)) (sym e) ∙ other

-- a type that is not the first with data stands without
bare_front : (t : Listed ℕ) (ks : Listed (Listed ℕ)) (ds : Listed Content)
    → ((d : Content) (rest : Listed Content) → ds ≡ d ∷ rest → bytes_eq t d.0 ≡ false)
    → merged (t ∷ ks) ds ≡ in_front (t, None) (merged ks ds)
bare_front t ks [] other = refl
bare_front t ks (d ∷ ds) other =
    ap (λ b. if b then in_front (t, Some d.1) (merged ks ds)
    else in_front (t, None) (merged ks (d ∷ ds))) (other d ds refl)

-- types with their data are read as they were shown
pub merged_shown : (ts : Listed Declared) → are_distinct ts ≡ true
    → merged (keys_of ts) (contents ts) ≡ Some ts
merged_shown [] distinct = refl
merged_shown (t ∷ ts) distinct =
    let known = first_alone t ts distinct in
    by t.1 known.0 (merged_shown ts known.1)
  where
    by : (content : Option (Listed ℕ)) → value_of ts t.0 ≡ None
        → merged (keys_of ts) (contents ts) ≡ Some ts
        → merged (t.0 ∷ keys_of ts) (with_content t.0 content (contents ts))
        ≡ Some ((t.0, content) ∷ ts)
    by None absent rest =
        bare_front t.0 (keys_of ts) (contents ts) (λ d ds is. first_other t.0 ts d ds absent is)
        ∙ ap (in_front (t.0, None)) rest
    by (Some content) absent rest =
        ap (λ b. if b then in_front (t.0, Some content) (merged (keys_of ts) (contents ts))
        else in_front (t.0, None) (merged (keys_of ts) ((t.0, content) ∷ contents ts)))
        (own_bytes t.0)
        ∙ ap (in_front (t.0, Some content)) rest

-- what types and their data were read from
abbrev AreFrom : Listed (Listed ℕ) → Listed Content → Listed Declared → Type 0
AreFrom ks ds ts = (keys_of ts ≡ ks) × (contents ts ≡ ds)

-- a type without data in front of others
bare_back : (k : Listed ℕ) (ks : Listed (Listed ℕ)) (ds : Listed Content) (ts : Listed Declared)
    → ((rest : Listed Declared) → merged ks ds ≡ Some rest → AreFrom ks ds rest)
    → in_front (k, None) (merged ks ds) ≡ Some ts → AreFrom (k ∷ ks) ds ts
bare_back k ks ds ts later is =
    let rest = mapped_of (λ (xs : Listed Declared). (k, None) ∷ xs) (merged ks ds) ts is in
    let from = later rest.0 rest.1 in
    (ap keys_of (sym rest.2) ∙ ap (λ xs. k ∷ xs) from.0, ap contents (sym rest.2) ∙ from.1)

-- a type with its data in front of others
full_back : (k : Listed ℕ) (d : Content) (ks : Listed (Listed ℕ)) (ds : Listed Content)
    (ts : Listed Declared) → bytes_eq k d.0 ≡ true
    → ((rest : Listed Declared) → merged ks ds ≡ Some rest → AreFrom ks ds rest)
    → in_front (k, Some d.1) (merged ks ds) ≡ Some ts → AreFrom (k ∷ ks) (d ∷ ds) ts
full_back k d ks ds ts same later is =
    let rest = mapped_of (λ (xs : Listed Declared). (k, Some d.1) ∷ xs) (merged ks ds) ts is in
    let from = later rest.0 rest.1 in (
      ap keys_of (sym rest.2) ∙ ap (λ xs. k ∷ xs) from.0,
      ap contents (sym rest.2) ∙ ap (λ xs. (k, d.1) ∷ xs) from.1
          ∙ ap (λ x. (x, d.1) ∷ ds) (same_name k d.0 same),
    )

-- types with their data are shown as they were read
pub merged_back : (ks : Listed (Listed ℕ)) (ds : Listed Content) (ts : Listed Declared)
    → merged ks ds ≡ Some ts → AreFrom ks ds ts
merged_back [] [] ts is = (ap keys_of (sym (some_same is)), ap contents (sym (some_same is)))
merged_back [] (d ∷ ds) ts is = cc
merged_back (k ∷ ks) [] ts is = bare_back k ks [] ts (merged_back ks []) is
merged_back (k ∷ ks) (d ∷ ds) ts is =
    by (bytes_eq k d.0) refl (merged_back ks ds) (merged_back ks (d ∷ ds)) is
  where
    by : (b : Bool) → bytes_eq k d.0 ≡ b
        → ((rest : Listed Declared) → merged ks ds ≡ Some rest → AreFrom ks ds rest)
        → ((rest : Listed Declared) → merged ks (d ∷ ds) ≡ Some rest → AreFrom ks (d ∷ ds) rest)
        → (if b then in_front (k, Some d.1) (merged ks ds)
        else in_front (k, None) (merged ks (d ∷ ds))) ≡ Some ts → AreFrom (k ∷ ks) (d ∷ ds) ts
    by true same later others e = full_back k d ks ds ts same later e
    by false differs later others e = bare_back k ks (d ∷ ds) ts others e
