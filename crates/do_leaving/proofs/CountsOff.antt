-- Counts once uses were taken off.
use Rattle.std.specs.FinMap as map
use Rattle.std.proofs.Common.{◌≡◌, ◌≢◌, ℕ, ◌+◌, ◌-◌, Bool, true, false, cond, List, [], ◌∷◌, refl}
use Rattle.std.proofs.Common.{◌∙◌, arith, not}
use Rattle.std.specs.{Prelude.{◌==◌, ◌&&◌, if◌then◌else◌}, FinMap.{get-insert, get-remove}}
use Rattle.std.proofs.lemmas.{Bool.Decides.nat_tests, List.Sums.sum_by-cons}
use Rattle.do_base.specs.names.Names.{ObjectName}
use Rattle.do_packet.specs.Met.{same_object}
use Rattle.do_export.specs.Counts.{Counts, count_of, lowered}
use Rattle.do_import.specs.{ByObject.taken_off, Imported.all_off}
use Rattle.do_leaving.specs.{Counted.times, Sweeping.foreign}
use Rattle.do_export.proofs.Order.{entry_total}
use Rattle.do_leaving.proofs.SlotNames.{once}

-- a count once one was taken off another or itself
lowered-count : (c : Counts) (p s q t : ℕ) → count_of (lowered c p s 1) q t
    ≡ (if (q == p) && (t == s) then count_of c p s - 1 else count_of c q t)
lowered-count c p s q t = go (count_of c p s == 1) refl
  where
    -- whether the last is taken off or not
    go : (b : Bool) → (count_of c p s == 1) ≡ b
        → count_of (if b then map.remove c (p, s)
        else map.insert c (p, s) (count_of c p s - 1)) q t
        ≡ (if (q == p) && (t == s) then count_of c p s - 1 else count_of c q t)
    go true e = rw (get-remove entry_total c (p, s) (q, t)) (grind (arith, nat_tests, e))
    go false e =
        rw (get-insert entry_total c (p, s) (count_of c p s - 1) (q, t)) (grind (arith, nat_tests))

-- where there is none, none is taken off
taken-count : (c : Counts) (o p : ObjectName) → count_of (taken_off c o) p.node p.serial
    ≡ count_of c p.node p.serial - once (same_object p o)
taken-count c o p = go (count_of c o.node o.serial == 0) refl
  where
    -- whether there is any or not
    go : (b : Bool) → (count_of c o.node o.serial == 0) ≡ b
        → count_of (if b then c else lowered c o.node o.serial 1) p.node p.serial
        ≡ count_of c p.node p.serial - once (same_object p o)
    go true e = grind (arith, nat_tests, e)
    go false e =
        lowered-count c o.node o.serial p.node p.serial ∙ grind (arith, nat_tests)

-- a count once one was taken off for each of some objects
pub all_off-count : (c : Counts) (os : List ObjectName) (p : ObjectName)
    → count_of (all_off c os) p.node p.serial ≡ count_of c p.node p.serial - times p os
all_off-count c [] p = omega arith
all_off-count c (o ∷ os) p =
    let a = all_off-count (taken_off c o) os p in
    let b = taken-count c o p in
    let d = sum_by-cons (λ x. once (same_object p x)) o os in
    omega (arith, a, b, d)

-- a foreign object stands as often among the foreign ones
pub foreign-times : (node : ℕ) (os : List ObjectName) (p : ObjectName) → p.node ≢ node
    → times p (foreign node os) ≡ times p os
foreign-times node [] p away = refl
foreign-times node (o ∷ os) p away =
    go (o.node == node) refl (foreign-times node os p away)
    (sum_by-cons (λ x. once (same_object p x)) o (foreign node os))
    (sum_by-cons (λ x. once (same_object p x)) o os)
  where
    -- whether the first is an own object or a foreign one
    go : (b : Bool) → (o.node == node) ≡ b → times p (foreign node os) ≡ times p os
        → times p (o ∷ foreign node os) ≡ once (same_object p o) + times p (foreign node os)
        → times p (o ∷ os) ≡ once (same_object p o) + times p os
        → times p (cond (not b) (o ∷ foreign node os) (foreign node os)) ≡ times p (o ∷ os)
    go true e rest more all =
        let apart : once (same_object p o) ≡ 0 = grind (arith, nat_tests, e, away) in
        omega (arith, rest, all, apart)
    go false e rest more all = omega (arith, rest, more, all)
