-- What several locals hold, one after the other.
use Rattle.std.proofs.Common.{◌≡◌, ℕ, zero, suc, List, [], ◌∷◌, ◌++◌, Option, Some, None, refl}
use Rattle.std.{proofs.Common.{take, ◌∙◌, ap}, specs.Prelude.slice_get}
use Rattle.do_base.specs.declared.values.value.Value.{Value}
use Rattle.do_grammar.specs.Words.{◌>>?◌}
use Rattle.do_behave.specs.{Steps.{local, local_values}, declared.invocation.Invocation.Invocation}
use Rattle.do_behave.proofs.ListUpdates.{some_is}

-- a value, if there is one, before others, if there are any
abbrev before : Option Value → Option (List Value) → Option (List Value)
before o p = o >>? λ v. p >>? λ vs. Some (v ∷ vs)

-- before nothing there is nothing
before_none : (o : Option Value) → before o None ≡ None
before_none None = refl
before_none (Some v) = refl

-- one more at the end of the others is one more at the end of all
before_more : (o : Option Value) (p q : Option (List Value)) (vs : List Value) (v : Value)
    → ((ws : List Value) → p ≡ Some ws → q ≡ Some (ws ++ v ∷ []))
    → before o p ≡ Some vs → before o q ≡ Some (vs ++ v ∷ [])
before_more None p q vs v next e = cc
before_more (Some w) None q vs v next e = cc
before_more (Some w) (Some ws) q vs v next e =
    ap (before (Some w)) (next ws refl) ∙ ap (λ us. Some (us ++ v ∷ [])) (some_is e)

-- what one local more holds comes at the end
pub values_more : (inv : Invocation) (ks : List ℕ) (i k : ℕ) (vs : List Value) (v : Value)
    → slice_get ks i ≡ Some k → local_values inv (take i ks) ≡ Some vs → local inv k ≡ Some v
    → local_values inv (take (suc i) ks) ≡ Some (vs ++ v ∷ [])
values_more inv [] i k vs v found so_far there = cc
values_more inv (x ∷ ks) zero k vs v found so_far there =
    ap (λ j. before (local inv j) (Some [])) (some_is found)
    ∙ ap (λ o. before o (Some [])) there
    ∙ ap (λ us. Some (us ++ v ∷ [])) (some_is so_far)
values_more inv (x ∷ ks) (suc i) k vs v found so_far there =
    before_more (local inv x) (local_values inv (take i ks)) (local_values inv (take (suc i) ks)) vs
    v (λ ws e. values_more inv ks i k ws v found e there) so_far

-- where one local is not there, there is no list of what all hold
pub values_none : (inv : Invocation) (ks : List ℕ) (i k : ℕ) → slice_get ks i ≡ Some k
    → local inv k ≡ None → local_values inv ks ≡ None
values_none inv [] i k found none = cc
values_none inv (x ∷ ks) zero k found none =
    ap (λ j. before (local inv j) (local_values inv ks)) (some_is found)
    ∙ ap (λ o. before o (local_values inv ks)) none
values_none inv (x ∷ ks) (suc i) k found none =
    ap (before (local inv x)) (values_none inv ks i k found none) ∙ before_none (local inv x)

pub ruleset local_steps = (values_more, values_none)
