-- The weight of each kind of value, and that no value weighs nothing.
use Rattle.std.proofs.Common.{◌≡◌, ℕ, ℤ, List as Listed, ◌≤◌, ◌+◌, length, sum, map, arith, rules}
use Rattle.do_base.specs.{names.Names.ObjectName, values.Values.weight_of}
use Rattle.do_base.specs.values.Induction.{value_induction}
use Rattle.do_base.specs.declared.values.value.Value.{Value, List, the_lemmas}
use Rattle.do_base.specs.declared.values.value.Value.TheVariants.{Nil, Num, Text, Obj}

-- a nil weighs 1
pub weight_of-Nil : weight_of Nil ≡ 1
weight_of-Nil = search (rules, the_lemmas)

-- a number weighs 16
pub weight_of-Num : (n : ℤ) → weight_of (Num n) ≡ 16
weight_of-Num n = search (rules, the_lemmas)

-- a text weighs 16 and 1 for each byte
pub weight_of-Text : (s : Listed ℕ) → weight_of (Text s) ≡ 16 + length s
weight_of-Text s = search (rules, the_lemmas)

-- an object weighs 48
pub weight_of-Obj : (o : ObjectName) → weight_of (Obj o) ≡ 48
weight_of-Obj o = search (rules, the_lemmas)

-- a list weighs 16 and what its items weigh
pub weight_of-List : (vs : Listed Value) → weight_of (List vs) ≡ 16 + sum (map weight_of vs)
weight_of-List vs = search (rules, the_lemmas)

-- no value weighs nothing
pub weight_of_above : (v : Value) → 1 ≤ weight_of v
weight_of_above =
    value_induction (λ v. 1 ≤ weight_of v)
    (omega (arith, weight_of-Nil))
    (λ n. omega (arith, weight_of-Num n))
    (λ s. omega (arith, weight_of-Text s))
    (λ o. omega (arith, weight_of-Obj o))
    (λ vs _. omega (arith, weight_of-List vs))

-- all of them, for a value whose parts are known
pub ruleset weights = (weight_of-Nil, weight_of-Num, weight_of-Text, weight_of-Obj, weight_of-List)
