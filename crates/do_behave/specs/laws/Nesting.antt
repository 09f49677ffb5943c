-- How lists nest, kind by kind, and what a list weighs and nests with one more item.
use Rattle.std.proofs.Common.{◌≡◌, ℕ, List as Listed, [], ◌∷◌, ◌++◌, ◌<◌, ◌+◌, ◌-◌, Bool, true}
use Rattle.std.proofs.Common.{false, ◌&&◌, nat_lt, nat_le, length, sum_by, map, suc, zero}
use Rattle.std.proofs.Common.{length-append, refl, sym, ◌∙◌, ap, arith, rules}
use Rattle.std.{specs.List.list_all, proofs.lemmas.List.Folds.{list_all-map, list_all-append}}
use Rattle.std.proofs.lemmas.List.Sums.{sum_by-append, sum-map}
use Rattle.do_base.specs.{values.Values.weight_of, declared.values.value.Value.{Value, List}}
use Rattle.do_base.{specs.declared.values.value.Value.the_lemmas, proofs.Weights.weight_of-List}
use Rattle.do_behave.specs.{Limits.nests_within, Lists.can_be}

and_true : (b : Bool) → (b && true) ≡ b
and_true true = refl
and_true false = refl

nests_within-List : (vs : Listed Value) (n : ℕ)
    → nests_within (List vs) (suc n) ≡ list_all (λ within. within n) (map nests_within vs)
nests_within-List vs n = search (rules, the_lemmas)

pub nests_within-List_none : (vs : Listed Value) → nests_within (List vs) 0 ≡ false
nests_within-List_none vs = search (rules, the_lemmas)

-- a list nests one deeper than its items
pub nests_within-deeper : (vs : Listed Value) (depth : ℕ) → 0 < depth
    → nests_within (List vs) depth ≡ list_all (λ v. nests_within v (depth - 1)) vs
nests_within-deeper vs zero above = absurd (none above)
  where
    none : 0 < 0 → ⊥
    none h = omega arith
nests_within-deeper vs (suc n) above =
    let same : n ≡ suc n - 1 = omega arith in
    nests_within-List vs n ∙ list_all-map (λ (within : ℕ → Bool). within n) nests_within vs
    ∙ ap (λ k. list_all (λ v. nests_within v k) vs) same

pub weight_of-items : (vs : Listed Value) → weight_of (List vs) ≡ 16 + sum_by weight_of vs
weight_of-items vs = weight_of-List vs ∙ ap (λ n. 16 + n) (sum-map weight_of vs)

pub weight_of-push : (vs : Listed Value) (v : Value)
    → weight_of (List (vs ++ v ∷ [])) ≡ weight_of (List vs) + weight_of v
weight_of-push vs v =
    let all : weight_of (List (vs ++ v ∷ [])) ≡ 16 + sum_by weight_of (vs ++ v ∷ []) =
    weight_of-items (vs ++ v ∷ []) in
    let old : weight_of (List vs) ≡ 16 + sum_by weight_of vs = weight_of-items vs in
    omega (arith, all, old, sum_by-append weight_of vs (v ∷ []))

nests_within-push : (vs : Listed Value) (v : Value)
    → nests_within (List (vs ++ v ∷ [])) 8 ≡
    (list_all (λ w. nests_within w 7) vs && nests_within v 7)
nests_within-push vs v =
    let inside : nests_within (List (vs ++ v ∷ [])) 8 ≡ list_all (λ w. nests_within w 7)
    (vs ++ v ∷ []) = nests_within-deeper (vs ++ v ∷ []) 8 (omega arith) in
    inside ∙ list_all-append (λ (w : Value). nests_within w 7) vs (v ∷ [])
    ∙ ap (λ b. list_all (λ w. nests_within w 7) vs && b) (and_true (nests_within v 7))

-- the limits on a list with one more item
pub can_be_push : (vs : Listed Value) (v : Value) (heavy : ℕ)
    → heavy ≡ weight_of (List vs) + weight_of v
    → can_be (vs ++ v ∷ []) ≡
    (nat_lt (length vs) 1024
    && ((list_all (λ w. nests_within w 7) vs && nests_within v 7) && nat_le heavy 2097152))
can_be_push vs v heavy is_sum =
    let longer : length (vs ++ v ∷ []) ≡ suc (length vs) =
    omega (arith, length-append vs (v ∷ [])) in
    let weighs : weight_of (List (vs ++ v ∷ [])) ≡ heavy = weight_of-push vs v ∙ sym is_sum in
    ap (λ n. nat_le n 1024 && (nests_within (List (vs ++ v ∷ [])) 8
    && nat_le (weight_of (List (vs ++ v ∷ []))) 2097152)) longer
    ∙ ap (λ b. nat_lt (length vs) 1024 && (b && nat_le (weight_of (List (vs ++ v ∷ []))) 2097152))
    (nests_within-push vs v)
    ∙ ap (λ n. nat_lt (length vs) 1024
    && ((list_all (λ w. nests_within w 7) vs && nests_within v 7) && nat_le n 2097152)) weighs
