-- Lists of objects that weigh little.
use Rattle.std.proofs.Common.{◌≡◌, zero, suc, ◌<◌, Bool, true, false, cond, List, [], ◌∷◌, ◌++◌}
use Rattle.std.proofs.Common.{sum_by, subst, sym}
use Rattle.do_base.specs.{values.Values.weight_of, declared.values.value.Value.Value}
use Rattle.site_calls.specs.Samples.{AllLight}

-- one more light list
light_more : (xs : List (List Value)) (v : List Value) → AllLight xs →
    sum_by weight_of v < 4294967296 → AllLight (xs ++ v ∷ [])
light_more [] v h l zero vs e =
    let k : v ≡ vs = cc in subst (λ (w : List Value). sum_by weight_of w < 4294967296) k l
light_more [] v h l (suc at) vs e = absurd (cc)
light_more (x ∷ xs) v h l zero vs e = h zero vs e
light_more (x ∷ xs) v h l (suc at) vs e = light_more xs v (λ k. h (suc k)) l at vs e

-- one more, or as before
pub light_either : (b : Bool) (xs ys : List (List Value)) (v : List Value) → AllLight xs →
    sum_by weight_of v < 4294967296 → ys ≡ cond b (xs ++ v ∷ []) xs → AllLight ys
light_either true xs ys v h l e =
    subst (λ (w : List (List Value)). AllLight w) (sym e) (light_more xs v h l)
light_either false xs ys v h l e = subst (λ (w : List (List Value)). AllLight w) (sym e) h
