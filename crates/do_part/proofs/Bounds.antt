-- Counts are small: a value names an object no more often than it has names.
use Rattle.std.specs.FinMap as map
use Rattle.std.proofs.Common.{◌≡◌, ℕ, ◌≤◌, Bool, true, false, cond, ◌&&◌, eqb, List as Listed, []}
use Rattle.std.proofs.{Common.{◌∷◌, rules, arith, sum_by, length}, lemmas.List.Sums.sum_by-cons}
use Rattle.std.specs.List.{AllByRecursion}
use Rattle.do_base.specs.{names.Names.ObjectName, values.Induction.value_induction}
use Rattle.do_base.specs.declared.values.value.Value.{Value, the_lemmas}
use Rattle.do_base.specs.declared.values.value.Value.TheVariants.{Nil, Num, Text}
use Rattle.do_part.specs.Names.{value_of, values_of, size_of, sizes_of}
use Rattle.do_network.specs.Own.{Own}
use Rattle.do_part.specs.Sound.{entries}
use Rattle.do_export.proofs.Counting.{at}
use Rattle.do_part.proofs.Naming.{of-Obj, of-List, size-Obj, size-List}

-- one at most
pub choice-le : (b : Bool) → cond b 1 0 ≤ 1
choice-le true = omega arith
choice-le false = omega arith

-- of an object and another one
pub at-le : (p s x y : ℕ) → at p s x y ≤ 1
at-le p s x y = choice-le ((eqb p x) && (eqb s y))

-- values whose items do so, too
each-le : (o : ObjectName) (vs : Listed Value)
    → AllByRecursion (λ v. value_of v o ≤ size_of v) vs → values_of vs o ≤ sizes_of vs
each-le o [] h = omega arith
each-le o (v ∷ vs) h =
    let a = sum_by-cons (λ w. value_of w o) v vs in
    let b = sum_by-cons size_of v vs in
    let c = each-le o vs h.1 in
    let d = h.0 in
    omega arith

-- a value names an object no more often than it has names
pub value-le : (o : ObjectName) (v : Value) → value_of v o ≤ size_of v
value-le o = value_induction (λ v. value_of v o ≤ size_of v)
    (let e : value_of Nil o ≡ 0 = search (rules, the_lemmas) in omega arith)
    (λ n. let e : value_of (Num n) o ≡ 0 = search (rules, the_lemmas) in omega arith)
    (λ s. let e : value_of (Text s) o ≡ 0 = search (rules, the_lemmas) in omega arith)
    (λ x. let a = of-Obj x o in let b = size-Obj x in
    let c = at-le x.node x.serial o.node o.serial in omega arith)
    (λ vs h. let a = of-List vs o in let b = size-List vs in let c = each-le o vs h in omega arith)

-- so it is for values in a row
pub values-le : (o : ObjectName) (vs : Listed Value) → values_of vs o ≤ sizes_of vs
values-le o [] = omega arith
values-le o (v ∷ vs) =
    let a = sum_by-cons (λ w. value_of w o) v vs in
    let b = sum_by-cons size_of v vs in
    let c = values-le o vs in
    let d = value-le o v in
    omega arith

-- no more peers have an entry than ends are open
pub entries-le : (own : Own) (n : ℕ) → entries own n ≤ length own.node.open_to
entries-le own n = go own.node.open_to
  where
    go : (ends : Listed ℕ)
        → sum_by (λ peer. cond (map.contains_key own.counts (peer, n)) 1 0) ends ≤ length ends
    go [] = omega arith
    go (p ∷ ps) =
        let a = sum_by-cons (λ peer. cond (map.contains_key own.counts (peer, n)) 1 0) p ps in
        let b = choice-le (map.contains_key own.counts (p, n)) in
        let c = go ps in
        omega arith
