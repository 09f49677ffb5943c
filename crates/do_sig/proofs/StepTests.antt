-- The tests of a step that reads a count or a name, and the digits of a count.
use Rattle.std.proofs.Common.{◌≡◌, ℕ, ◌+◌, ◌-◌, ◌≤◌, Bool, true, false, cond, eqb, leb, List, []}
use Rattle.std.{proofs.Common.{◌∷◌, refl, ap, ◌∙◌, arith}, specs.{Prelude.◌&&◌, Fmt.decimal}}
use Rattle.std.proofs.lemmas.{Bool.Decides.nat_tests, Fmt.decimal_digit}
use Rattle.do_grammar.specs.Reader.{Step, goes, leaves, fails}
use Rattle.do_sig.specs.{declared.value_type.ValueType.ValueType, Types.IsType}
use Rattle.do_sig.specs.reading.Types.{count_step}

-- the same text, written otherwise
pub retext : (d : ℕ) (text other : List ℕ) (x : ValueType) → text ≡ other → IsType d other x
    → IsType d text x
retext d text other x e t = record { spelled = e ∙ t.spelled; within = t.within }

-- a step that goes on, by its three tests
pub count_goes : {S K : Type 0} (t u v : Bool) (s w : S) (k j : K)
    → cond {A = Step S K} t (cond u (fails k) (cond v (goes s) (fails j))) leaves ≡ goes w
    → (t ≡ true) × (u ≡ false) × (v ≡ true) × (s ≡ w)
count_goes true true v s w k j e = absurd cc
count_goes true false true s w k j e = (refl, refl, refl, cc)
count_goes true false false s w k j e = absurd cc
count_goes false u v s w k j e = absurd cc

-- the same of a name
pub name_goes : {S K : Type 0} (t u v : Bool) (s w : S) (k j : K)
    → cond {A = Step S K} t (goes s) (cond u leaves (cond v (fails k) (fails j))) ≡ goes w
    → (t ≡ true) × (s ≡ w)
name_goes true u v s w k j e = (refl, cc)
name_goes false true v s w k j e = absurd cc
name_goes false false true s w k j e = absurd cc
name_goes false false false s w k j e = absurd cc

-- a step that leaves a name
pub name_leaves : {S K : Type 0} (t u v : Bool) (s : S) (k j : K)
    → cond {A = Step S K} t (goes s) (cond u leaves (cond v (fails k) (fails j))) ≡ leaves
    → u ≡ true
name_leaves true u v s k j e = absurd cc
name_leaves false true v s k j e = refl
name_leaves false false true s k j e = absurd cc
name_leaves false false false s k j e = absurd cc

-- a count that passes is at most 1,024
pub within_count : (m : ℕ) → leb m 1024 ≡ true → m ≤ 1024
within_count m e = grind (arith, nat_tests)

-- a number other than zero is above it
pub above_zero : (n : ℕ) → eqb n 0 ≡ false → 1 ≤ n
above_zero n e = grind (arith, nat_tests)

-- what is no digit ends a count
pub no_digit_leaves : (n b : ℕ) → (leb 48 b && leb b 57) ≡ false → count_step n b ≡ leaves
no_digit_leaves n b e = rw e refl

-- a digit spells its number
pub one_digit : (b : ℕ) → 48 ≤ b → b ≤ 57 → decimal (b - 48) ≡ b ∷ []
one_digit b p q =
    let byte : 48 + (b - 48) ≡ b = omega arith in
    decimal_digit (b - 48) (omega arith) ∙ ap (λ (c : ℕ). c ∷ []) byte
