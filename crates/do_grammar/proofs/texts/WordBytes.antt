-- Chains of values that may be missing, and bytes that stand nowhere in a text.
use Rattle.std.proofs.Common.{◌≡◌, ◌≢◌, ℕ, Bool, true, false, List, [], ◌∷◌, ◌++◌, Option, Some}
use Rattle.std.{proofs.Common.{None, refl, ap}, specs.{Prelude.◌&&◌, List.list_all}}
use Rattle.do_grammar.specs.Words.{◌>>?◌, Without}

-- a chain that has a value has one at each step
pub chain_some : {A B : Type 0} (o : Option A) (f : A → Option B) (y : B) → (o >>? f) ≡ Some y
    → (x : A) × (o ≡ Some x) × (f x ≡ Some y)
chain_some None f y e = absurd cc
chain_some (Some x) f y e = (x, refl, e)

-- equal values that are there are equal
pub some_is : {A : Type 0} (x y : A) → ◌≡◌ {A = Option A} (Some x) (Some y) → x ≡ y
some_is x y e = cc

-- where each byte passes a test that the byte itself does not pass, it stands nowhere
pub Without-passes : (ok : ℕ → Bool) (end : ℕ) (text : List ℕ) → ok end ≡ false
    → list_all ok text ≡ true → Without end text
Without-passes ok end [] off h = tt
Without-passes ok end (b ∷ text) off h = go (ok b) refl h (λ q. Without-passes ok end text off q)
  where
    go : (t : Bool) → ok b ≡ t → (t && list_all ok text) ≡ true
        → (list_all ok text ≡ true → Without end text) → (b ≢ end) × Without end text
    go true p q again = (λ (e : b ≡ end). let f = ap ok e in absurd cc, again q)
    go false p q again = absurd cc

-- a byte that stands in neither part stands nowhere in both
pub Without-append : (end : ℕ) (a b : List ℕ) → Without end a → Without end b → Without end (a ++ b)
Without-append end [] b p q = q
Without-append end (x ∷ a) b p q = (p.0, Without-append end a b p.1 q)
