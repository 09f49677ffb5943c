-- Types that are added: which are there, what they have, and how many they are.
use Rattle.std.proofs.Common.{◌≡◌, ℕ, Bool, true, false, ◌&&◌, ◌||◌, List, [], ◌∷◌, ◌++◌, Option}
use Rattle.std.proofs.Common.{Some, None, refl, sym, ◌∙◌, ap, is_some}
use Rattle.std.specs.{Prelude.{if◌then◌else◌, cond}, List.{list_all, list_any}, Map.keys_of}
use Rattle.std.{specs.Str.bytes_eq, proofs.lemmas.Bool.{and_parts, and_from}}
use Rattle.std.proofs.lemmas.{List.Folds.list_all-append, Map.Made.is_some-lookup}
use Rattle.do_native_acts.specs.Types.{is_type}
use Rattle.do_table.specs.Entries.{value_of, added, given, are_distinct}
use Rattle.do_table.specs.laws.Entered.{distinct_added, given_none, value_added}
use Rattle.do_pboard.specs.{Changes.with_types, Core.{Declared, bare}, Meaning.joined}

-- the names of types without data are these
pub keys_bare : (types : List (List ℕ)) → keys_of (bare types) ≡ types
keys_bare [] = refl
keys_bare (t ∷ ts) = ap (λ xs. t ∷ xs) (keys_bare ts)

-- each type without data that is there has none
pub value_bare : (types : List (List ℕ)) (kind : List ℕ)
    → value_of (bare types) kind
    ≡ (if list_any (bytes_eq kind) types then Some None else None)
value_bare [] kind = refl
value_bare (t ∷ ts) kind = by (bytes_eq kind t) (value_bare ts kind)
  where
    by : (b : Bool)
        → value_of (bare ts) kind ≡ (if list_any (bytes_eq kind) ts then Some None else None)
        → cond b (Some None) (value_of (bare ts) kind)
        ≡ (if (b || list_any (bytes_eq kind) ts) then Some None else None)
    by true rest = refl
    by false rest = rest

-- the names of the types once one is added
keys_added : (ts : List Declared) (new : List ℕ)
    → keys_of (added ts new None)
    ≡ (if list_any (bytes_eq new) (keys_of ts) then keys_of ts else keys_of ts ++ new ∷ [])
keys_added ts new = by (is_some (value_of ts new)) (is_some-lookup (bytes_eq new) ts)
  where
    keys_pushed : (us : List Declared) → keys_of (us ++ (new, None) ∷ []) ≡ keys_of us ++ new ∷ []
    keys_pushed [] = refl
    keys_pushed (u ∷ us) = ap (λ xs. u.0 ∷ xs) (keys_pushed us)

    by : (b : Bool) → b ≡ list_any (bytes_eq new) (keys_of ts)
        → keys_of (if b then ts else ts ++ (new, None) ∷ [])
        ≡ (if list_any (bytes_eq new) (keys_of ts) then keys_of ts else keys_of ts ++ new ∷ [])
    by true is = ap (λ b. if b then keys_of ts else keys_of ts ++ new ∷ []) is
    by false is =
        keys_pushed ts ∙ ap (λ b. if b then keys_of ts else keys_of ts ++ new ∷ []) is

-- the names of the types once several are added
pub keys_joined : (ts : List Declared) (types : List (List ℕ))
    → keys_of (with_types ts types) ≡ joined (keys_of ts) types
keys_joined ts [] = refl
keys_joined ts (new ∷ more) =
    keys_joined (added ts new None) more ∙ ap (λ ks. joined ks more) (keys_added ts new)

-- a name that is given twice is given once
given_twice : (o : Option (Option (List ℕ))) (a b : Bool)
    → given (given o None a) None b ≡ given o None (a || b)
given_twice (Some had) a b = refl
given_twice None true b = refl
given_twice None false b = refl

-- what a type has once several are added
pub value_joined : (ts : List Declared) (types : List (List ℕ)) (kind : List ℕ)
    → value_of (with_types ts types) kind
    ≡ given (value_of ts kind) None (list_any (bytes_eq kind) types)
value_joined ts [] kind = sym (given_none (value_of ts kind) None)
value_joined ts (new ∷ more) kind =
    value_joined (added ts new None) more kind
    ∙ ap (λ o. given o None (list_any (bytes_eq kind) more)) (value_added ts new None kind)
    ∙ given_twice (value_of ts kind) (bytes_eq kind new) (list_any (bytes_eq kind) more)

-- types are distinct once several are added
pub distinct_joined : (ts : List Declared) (types : List (List ℕ)) → are_distinct ts ≡ true
    → are_distinct (with_types ts types) ≡ true
distinct_joined ts [] distinct = distinct
distinct_joined ts (new ∷ more) distinct =
    distinct_joined (added ts new None) more (distinct_added ts new None distinct)

-- each is a type once one is added
types_added : (known : List (List ℕ)) (new : List ℕ) (there : Bool) → is_type new ≡ true
    → list_all is_type known ≡ true
    → list_all is_type (if there then known else known ++ new ∷ []) ≡ true
types_added known new true good all = all
types_added known new false good all =
    list_all-append is_type known (new ∷ [])
    ∙ and_from (list_all is_type known) (is_type new && true) all
    (and_from (is_type new) true good refl)

-- and once several are
pub types_joined : (known types : List (List ℕ)) → list_all is_type known ≡ true
    → list_all is_type types ≡ true → list_all is_type (joined known types) ≡ true
types_joined known [] all good = all
types_joined known (new ∷ more) all good =
    let parts = and_parts (is_type new) (list_all is_type more) good in
    let there = list_any (bytes_eq new) known in
    types_joined (if there then known else known ++ new ∷ []) more
    (types_added known new there parts.0 all) parts.1
