-- Whether two values are equal, as a test that computes.
use Rattle.std.specs.Prelude.{◌≡◌, Bool, true, false, ◌&&◌, ◌==◌, List as Listed, [], ◌∷◌, map}
use Rattle.std.specs.{Ordering.int_eq, Bool.Decides, List.AllByRecursion}
use Rattle.std.specs.Cmp.{signed_Decides, unsigned_Decides}
use Rattle.std.{specs.Cmp.Lexicographic.{pointwise, bytes_decides}, proofs.Common.{rules, arith}}
use Rattle.do_base.specs.{values.Induction.value_induction, declared.values.value.Value.Value}
use Rattle.do_base.specs.declared.values.value.Value.{List, fold-Value, out-Value, the_lemmas}
use Rattle.do_base.specs.declared.values.value.Value.TheVariants.{Nil, Num, Text, Obj}
use Rattle.do_base.specs.declared.values.value.Value.TheOpen.{Value-F}

-- one level, where the values inside are tested already
abbrev pub equal_step : Value-F (Value → Bool) → Value-F Value → Bool
equal_step Value-F.Nil Value-F.Nil = true
equal_step (Value-F.Num m) (Value-F.Num n) = int_eq m n
equal_step (Value-F.Text s) (Value-F.Text t) = pointwise ◌==◌ s t
equal_step (Value-F.Obj o) (Value-F.Obj p) = (o.node == p.node) && (o.serial == p.serial)
equal_step (Value-F.List tests) (Value-F.List vs) = pointwise (λ test v. test v) tests vs
equal_step _ _ = false

-- whether two values are the same tree
abbrev pub value_eq : Value → Value → Bool
value_eq = fold-Value (Value → Bool) (λ level v. equal_step level (out-Value v))

-- where the items of one list are tested rightly, so are two lists
each_decides : (vs ws : Listed Value)
    → AllByRecursion (λ v. (w : Value) → Decides (value_eq v w) (v ≡ w)) vs
    → Decides (pointwise (λ test v. test v) (map value_eq vs) ws) (vs ≡ ws)
each_decides [] [] h = search rules
each_decides [] (w ∷ ws) h = search rules
each_decides (v ∷ vs) [] h = search rules
each_decides (v ∷ vs) (w ∷ ws) h = grind (arith, h.0 w, each_decides vs ws h.1)

-- what decides a pair of values whose level is known
ruleset level = (rules, the_lemmas, signed_Decides, bytes_decides, unsigned_Decides)

-- where items in pairs are tested rightly, so are the lists as values
lists_decide : (vs ws : Listed Value)
    → Decides (pointwise (λ test v. test v) (map value_eq vs) ws) (vs ≡ ws)
    → Decides (value_eq (List vs) (List ws)) (List vs ≡ List ws)
lists_decide vs ws h = search (rules, the_lemmas, h)

-- the test is true exactly at equal values
pub value_eq-Decides : (v w : Value) → Decides (value_eq v w) (v ≡ w)
value_eq-Decides =
    value_induction (λ v. (w : Value) → Decides (value_eq v w) (v ≡ w))
    (value_induction (λ w. Decides (value_eq Nil w) (Nil ≡ w))
    (search level) (λ n. search level) (λ s. search level) (λ o. search level)
    (λ vs _. search level))
    (λ m. value_induction (λ w. Decides (value_eq (Num m) w) (Num m ≡ w))
    (search level) (λ n. search level) (λ s. search level) (λ o. search level)
    (λ vs _. search level))
    (λ s. value_induction (λ w. Decides (value_eq (Text s) w) (Text s ≡ w))
    (search level) (λ n. search level) (λ t. search level) (λ o. search level)
    (λ vs _. search level))
    (λ o. value_induction (λ w. Decides (value_eq (Obj o) w) (Obj o ≡ w))
    (search level) (λ n. search level) (λ s. search level) (λ p. search level)
    (λ vs _. search level))
    (λ vs h. value_induction (λ w. Decides (value_eq (List vs) w) (List vs ≡ w))
    (search level) (λ n. search level) (λ s. search level) (λ o. search level)
    (λ ws _. lists_decide vs ws (each_decides vs ws h)))
