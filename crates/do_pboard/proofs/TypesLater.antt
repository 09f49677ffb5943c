-- Types behind others, and how many they are.
use Rattle.std.proofs.Common.{◌≡◌, ℕ, Bool, true, false, List, [], ◌∷◌, ◌++◌, length, Some, None}
use Rattle.std.proofs.Common.{refl, ◌∙◌, ap, is_some, take, arith, zero, suc, ◌+◌, length-append}
use Rattle.std.specs.{Prelude.{if◌then◌else◌, cond}, Str.bytes_eq}
use Rattle.do_table.specs.Entries.{value_of, added, given, are_distinct}
use Rattle.do_table.specs.laws.{Entered.{given_none, value_added}, TableLaws.first_alone}
use Rattle.std.proofs.lemmas.Cmp.{nat_list_eq_equiv}
use Rattle.do_pboard.specs.{Changes.{count_new, with_types}, Core.{Declared, bare}}

-- the first types stay where more are behind them
take_more : (n : ℕ) (ts us : List Declared) → length (take n ts) ≡ n
    → take n (ts ++ us) ≡ take n ts
take_more zero ts us full = refl
take_more (suc n) [] us full = cc
take_more (suc n) (t ∷ ts) us full =
    ap (λ xs. t ∷ xs) (take_more n ts us (omega (arith, full)))

-- a type that is added counts no more where it is not among these
count_added : (ts : List Declared) (new : List ℕ) (more : List (List ℕ))
    → value_of (bare more) new ≡ None → count_new (added ts new None) more ≡ count_new ts more
count_added ts new [] absent = refl
count_added ts new (t ∷ more) absent =
    by (bytes_eq new t) refl absent (count_added ts new more)
  where
    by : (b : Bool) → bytes_eq new t ≡ b → cond b (Some None) (value_of (bare more) new) ≡ None
        → (value_of (bare more) new ≡ None
        → count_new (added ts new None) more ≡ count_new ts more)
        → count_new (added ts new None) (t ∷ more) ≡ count_new ts (t ∷ more)
    by true same none later = cc
    by false differs none later =
        let other : bytes_eq t new ≡ false = nat_list_eq_equiv.symm t new ∙ differs in
        let stays : value_of (added ts new None) t ≡ value_of ts t =
        value_added ts new None t ∙ ap (given (value_of ts t) None) other
        ∙ given_none (value_of ts t) None in
        ap (λ o. if is_some o then count_new (added ts new None) more
        else count_new (added ts new None) more + 1) stays
        ∙ ap (λ n. if is_some (value_of ts t) then n else n + 1) (later none)

-- as many types are there as were, and those that are new
pub length_joined : (ts : List Declared) (types : List (List ℕ)) → are_distinct (bare types) ≡ true
    → length (with_types ts types) ≡ length ts + count_new ts types
length_joined ts [] distinct = omega arith
length_joined ts (new ∷ more) distinct =
    let known = first_alone (new, None) (bare more) distinct in
    length_joined (added ts new None) more known.1
    ∙ ap (λ n. length (added ts new None) + n) (count_added ts new more known.0)
    ∙ by (is_some (value_of ts new))
  where
    by : (b : Bool) → length (if b then ts else ts ++ (new, None) ∷ []) + count_new ts more
        ≡ length ts + (if b then count_new ts more else count_new ts more + 1)
    by true = refl
    by false = omega (arith, length-append ts ((new, None) ∷ []))
