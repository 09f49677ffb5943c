-- What the answer of a chain of readers, or of a test, says of its parts.
use Rattle.std.proofs.Common.{◌≡◌, ℕ, Bool, true, false, cond, List, Result, Ok, Err, refl, ap}
use Rattle.do_grammar.specs.Reader.{Stop, ◌>>=◌}

-- a chain that gives a value gave one at each step
pub bind_ok : {K A B : Type 0} (r : Result A (Stop K)) (f : A → Result B (Stop K)) (y : B)
    → (r >>= f) ≡ Ok y → (x : A) × (r ≡ Ok x) × (f x ≡ Ok y)
bind_ok (Ok x) f y e = (x, refl, e)
bind_ok (Err d) f y e = absurd cc

-- an answer with a value
abbrev pub okay : {E A : Type 0} → A → Result A E
okay x = Ok x

-- equal answers have equal values
pub ok_is : {E A : Type 0} (x y : A) → okay {E = E} x ≡ okay y → x ≡ y
ok_is x y e = cc

-- the value and the rest of a reader that did not fail
pub ok_value : {E A : Type 0} (x y : A) (xs ys : List ℕ)
    → okay {E = E} {A = A × List ℕ} (x, xs) ≡ okay (y, ys) → x ≡ y
ok_value {A = A} x y xs ys e = ap (λ (p : A × List ℕ). p.0) (ok_is (x, xs) (y, ys) e)

-- and equal rests
pub ok_rest : {E A : Type 0} (x y : A) (xs ys : List ℕ)
    → okay {E = E} {A = A × List ℕ} (x, xs) ≡ okay (y, ys) → xs ≡ ys
ok_rest {A = A} x y xs ys e = ap (λ (p : A × List ℕ). p.1) (ok_is (x, xs) (y, ys) e)

-- a chain that stopped did so in its first step or behind it
pub data Stopped {K A B : Type 0} (r : Result A (Stop K)) (f : A
    → Result B (Stop K)) (s : Stop K) : Type 0 where
  first : r ≡ Err s → Stopped r f s
  later : (x : A) → r ≡ Ok x → f x ≡ Err s → Stopped r f s

-- a chain that stopped did so at its first step or behind it
pub bind_err : {K A B : Type 0} (r : Result A (Stop K)) (f : A → Result B (Stop K)) (s : Stop K)
    → (r >>= f) ≡ Err s → Stopped r f s
bind_err (Ok x) f s e = later x refl e
bind_err (Err d) f s e = first cc

-- a test that passed, and one that did not
pub guard_ok : {E A : Type 0} (b : Bool) (s : E) (x y : A) → cond b (okay x) (Err s) ≡ Ok y
    → (b ≡ true) × (x ≡ y)
guard_ok true s x y e = (refl, ok_is x y e)
guard_ok false s x y e = absurd cc

-- a fault behind a test means that the test failed
pub guard_err : {E A : Type 0} (b : Bool) (s t : E) (x : A) → cond b (okay x) (Err s) ≡ Err t
    → (b ≡ false) × (t ≡ s)
guard_err true s t x e = absurd cc
guard_err false s t x e = (refl, cc)

-- a value behind a fault's test means that there was no fault
pub past_ok : {E A : Type 0} (b : Bool) (s : E) (x y : A) → cond b (Err s) (okay x) ≡ Ok y
    → (b ≡ false) × (x ≡ y)
past_ok true s x y e = absurd cc
past_ok false s x y e = (refl, ok_is x y e)

-- a fault there means that there was one
pub past_err : {E A : Type 0} (b : Bool) (s t : E) (x : A) → cond b (Err s) (okay x) ≡ Err t
    → (b ≡ true) × (t ≡ s)
past_err true s t x e = (refl, cc)
past_err false s t x e = absurd cc
