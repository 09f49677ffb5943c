-- Objects taken out one after the other.
use Rattle.std.proofs.Common.{◌≡◌, ℕ, ◌+◌, List, [], ◌∷◌, ◌++◌, arith, Some, sum_by}
use Rattle.std.proofs.lemmas.List.Sums.{sum_by-cons}
use Rattle.do_machine.specs.Lists.{IsIn}
use Rattle.do_leaving.specs.Counted.{serial_of}
use Rattle.do_store.specs.{Kept.Swept, Listing.Rising}
use Rattle.do_store.specs.Names.{Stored, find_stored, named_in, replaced}
use Rattle.do_leaving.specs.Sweeping.{TakenOut}
use Rattle.do_leaving.proofs.StoreLookups.{in_without, rising-without, sum-without}

-- one more is taken out
pub taken_more : (node : ℕ) (xs gone ys : List Stored) (o : Stored) → TakenOut node xs gone ys
    → find_stored ys o.serial ≡ Some o → o.held ≡ 0 → named_in node o.serial ys ≡ 0
    → TakenOut node xs (gone ++ o ∷ []) (replaced o.serial (λ s. []) ys)
taken_more node _ _ _ o (TakenOut.none xs) found held unnamed =
    TakenOut.more xs [] (replaced o.serial (λ s. []) xs) o found held unnamed
    (TakenOut.none (replaced o.serial (λ s. []) xs))
taken_more node _ _ _ o (TakenOut.more xs gone ys p f h u rest) found held unnamed =
    TakenOut.more xs (gone ++ o ∷ []) (replaced o.serial (λ s. []) ys) p f h u
    (taken_more node (replaced p.serial (λ s. []) xs) gone ys o rest found held unnamed)

-- to take out objects is to sweep
pub taken_swept : (node : ℕ) (xs gone ys : List Stored) → TakenOut node xs gone ys
    → Swept node xs ys
taken_swept node _ _ _ (TakenOut.none xs) = Swept.none xs
taken_swept node _ _ _ (TakenOut.more xs gone ys o found held unnamed rest) =
    Swept.more xs ys o.serial o found held unnamed
    (taken_swept node (replaced o.serial (λ s. []) xs) gone ys rest)

-- what is left was there
pub taken_within : (node : ℕ) (xs gone ys : List Stored) (x : Stored) → TakenOut node xs gone ys
    → IsIn ys x → IsIn xs x
taken_within node _ _ _ x (TakenOut.none xs) a = a
taken_within node _ _ _ x (TakenOut.more xs gone ys o found held unnamed rest) a =
    in_without o.serial xs x (taken_within node (replaced o.serial (λ s. []) xs) gone ys x rest a)

-- what is left rises
pub taken_rises : (node low top : ℕ) (xs gone ys : List Stored) → TakenOut node xs gone ys
    → Rising serial_of low xs top → Rising serial_of low ys top
taken_rises node low top _ _ _ (TakenOut.none xs) r = r
taken_rises node low top _ _ _ (TakenOut.more xs gone ys o found held unnamed rest) r =
    taken_rises node low top (replaced o.serial (λ s. []) xs) gone ys rest
    (rising-without low top o.serial xs r)

-- a sum over all is that over those that are gone and those that are left
pub taken_sum : (f : Stored → ℕ) (node low top : ℕ) (xs gone ys : List Stored)
    → TakenOut node xs gone ys → Rising serial_of low xs top
    → sum_by f gone + sum_by f ys ≡ sum_by f xs
taken_sum f node low top _ _ _ (TakenOut.none xs) r = omega arith
taken_sum f node low top _ _ _ (TakenOut.more xs gone ys o found held unnamed rest) r =
    let less = replaced o.serial (λ s. []) xs in
    let a = taken_sum f node low top less gone ys rest (rising-without low top o.serial xs r) in
    let b = sum-without f low top xs o r found in
    let c = sum_by-cons f o gone in
    omega (arith, a, b, c)
