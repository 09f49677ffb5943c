-- The members of lists that stand beside the arguments of a signature, from one argument on.
use Rattle.std.proofs.Common.{◌≡◌, ℕ, zero, suc, ◌+◌, ◌-◌, ◌<◌, ◌≤◌, Bool, true, false, cond, List}
use Rattle.std.proofs.Common.{[], ◌∷◌, ◌++◌, length, map, take, drop, Some, refl, ap, ◌∙◌, subst}
use Rattle.std.proofs.{Common.{sym, arith, append_assoc}, lemmas.List.append-nil}
use Rattle.std.specs.Prelude.{Err, Ok, OnOk, Result, get_or, not, slice_get}
use Rattle.do_base.specs.declared.values.value.Value.{Value, TheVariants.Nil}
use Rattle.do_sig.specs.{MethodTypes.{MethodType, QualifiedType}, Calls.{arg_fits, encoding_fits}}
use Rattle.do_sig.specs.{Calls.{is_oneway, qualifier_of, qualifiers_of, some_fits}, Fits.each_takes}
use Rattle.do_sig.specs.declared.qualifiers.Qualifier.{Qualifier}
use Rattle.do_machine.specs.run.Send.{inputs_by, outs_by}

-- An argument that stands first from a place on.
record StandsFirst (oneway : Bool) (es : List QualifiedType) (k : ℕ) (q : Qualifier) : Type 0 where
  first : QualifiedType
  rest : drop k es ≡ first ∷ drop (suc k) es
  is : qualifier_of oneway first ≡ q
  there : slice_get es k ≡ Some first

-- where there is an argument at a place, it stands first from there on
stands_first : (oneway : Bool) (es : List QualifiedType) (k : ℕ) (q : Qualifier) →
    slice_get (map (qualifier_of oneway) es) k ≡ Some q → StandsFirst oneway es k q
stands_first oneway [] k q h = cc
stands_first oneway (e ∷ es) zero q h = record { first = e; rest = refl; is = cc; there = refl }
stands_first oneway (e ∷ es) (suc k) q h =
    let s = stands_first oneway es k q h in
    record { first = s.first; rest = s.rest; is = s.is; there = s.there }

-- past the last argument there is none
none_left : {X : Type 0} (xs : List X) (k : ℕ) → length xs ≤ k → drop k xs ≡ []
none_left [] zero h = refl
none_left [] (suc k) h = refl
none_left (x ∷ xs) zero h = absurd (omega (arith, h))
none_left (x ∷ xs) (suc k) h = none_left xs k (omega (arith, h))

-- the first argument from a place on, and those from the next place on
first_is : (s : MethodType) (k : ℕ) (q : Qualifier) (f : StandsFirst (is_oneway s) s.args k q) →
    drop k s.args ≡ f.first ∷ drop (k + 1) s.args
first_is s k q f =
    let next : suc k ≡ k + 1 = omega arith in
    f.rest ∙ ap (λ n. f.first ∷ drop n s.args) next

-- the tests of the arguments from one on that come out
abbrev tests : MethodType → ℕ → List (Value → Bool)
tests s k = map encoding_fits (outs_by (is_oneway s) (drop k s.args) (drop k s.args))

pub takes_passed : (s : MethodType) (k : ℕ) (q : Qualifier) (vs : List Value) (b : Bool) →
    slice_get (qualifiers_of s) k ≡ Some q → q.comes_out ≡ false →
    b ≡ each_takes (tests s (k + 1)) vs → b ≡ each_takes (tests s k) vs
takes_passed s k q vs b h out is =
    let f = stands_first (is_oneway s) s.args k q h in
    let comes : (qualifier_of (is_oneway s) f.first).comes_out ≡ false =
    ap (λ (w : Qualifier). w.comes_out) f.is ∙ out in
    rw (first_is s k q f) (rw comes is)

-- the tests where the first argument comes out
tests_first : (s : MethodType) (k : ℕ) (q : Qualifier)
    (f : StandsFirst (is_oneway s) s.args k q) → q.comes_out ≡ true →
    tests s k ≡ encoding_fits f.first ∷ tests s (k + 1)
tests_first s k q f out =
    let comes : (qualifier_of (is_oneway s) f.first).comes_out ≡ true =
    ap (λ (w : Qualifier). w.comes_out) f.is ∙ out in
    rw (first_is s k q f) (rw comes refl)

pub takes_none : (s : MethodType) (k : ℕ) (q : Qualifier) (vs : List Value) →
    slice_get (qualifiers_of s) k ≡ Some q → q.comes_out ≡ true → vs ≡ [] →
    false ≡ each_takes (tests s k) vs
takes_none s k q vs h out none =
    let f = stands_first (is_oneway s) s.args k q h in
    rw none (rw (tests_first s k q f out) refl)

pub takes_unfit : (s : MethodType) (k : ℕ) (q : Qualifier) (v : Value) (vs : List Value) →
    slice_get (qualifiers_of s) k ≡ Some q → q.comes_out ≡ true → arg_fits s k v ≡ false →
    false ≡ each_takes (tests s k) (v ∷ vs)
takes_unfit s k q v vs h out unfit =
    let f = stands_first (is_oneway s) s.args k q h in
    let misfit : encoding_fits f.first v ≡ false =
    subst (λ m. some_fits m v ≡ false) f.there unfit in
    rw (tests_first s k q f out) (rw misfit refl)

pub takes_fit : (s : MethodType) (k : ℕ) (q : Qualifier) (v : Value) (vs : List Value) (b : Bool) →
    slice_get (qualifiers_of s) k ≡ Some q → q.comes_out ≡ true → arg_fits s k v ≡ true →
    b ≡ each_takes (tests s (k + 1)) vs → b ≡ each_takes (tests s k) (v ∷ vs)
takes_fit s k q v vs b h out fit is =
    let f = stands_first (is_oneway s) s.args k q h in
    let fits : encoding_fits f.first v ≡ true =
    subst (λ m. some_fits m v ≡ true) f.there fit in
    rw (tests_first s k q f out) (rw fits is)

none_after : (s : MethodType) (k : ℕ) → length s.args ≤ k → tests s k ≡ []
none_after s k h =
    ap (λ es. map encoding_fits (outs_by (is_oneway s) es es)) (none_left s.args k h)

pub takes_end : (s : MethodType) (k : ℕ) (vs : List Value) → length s.args ≤ k → vs ≡ [] →
    true ≡ each_takes (tests s k) vs
takes_end s k vs h none = rw none (rw (none_after s k h) refl)

pub takes_past : (s : MethodType) (k : ℕ) (vs : List Value) → length s.args ≤ k →
    0 < length vs → false ≡ each_takes (tests s k) vs
takes_past s k [] h some = absurd (omega (arith, some))
takes_past s k (v ∷ vs) h some = rw (none_after s k h) refl

pub ruleset argument_steps = (
  takes_passed,
  takes_none,
  takes_unfit,
  takes_fit,
  takes_end,
  takes_past,
)

all_taken : {X : Type 0} (xs : List X) → take (length xs) xs ≡ xs
all_taken [] = refl
all_taken (x ∷ xs) = ap (λ ys. x ∷ ys) (all_taken xs)

-- what stands behind the first element
behind : {X : Type 0} (xs : List X) → take (suc (length xs) - 1) xs ≡ xs
behind xs =
    let less : suc (length xs) - 1 ≡ length xs = omega arith in
    ap (λ n. take n xs) less ∙ all_taken xs

pub not_false : (b : Bool) → not b ≡ false → b ≡ true
not_false true h = refl
not_false false h = cc

pub takes_at : (s : MethodType) (k : ℕ) (q : Qualifier) (xs : List Value) (v : Value) (b : Bool) →
    1 ≤ length xs → v ≡ get_or xs 0 v → slice_get (qualifiers_of s) k ≡ Some q →
    q.comes_out ≡ true → arg_fits s k v ≡ true →
    b ≡ each_takes (tests s (k + 1)) (take (length xs - 1) (drop 1 xs)) →
    b ≡ each_takes (tests s k) xs
takes_at s k q [] v b some at h out fit is = absurd (omega (arith, some))
takes_at s k q (y ∷ ys) v b some at h out fit is =
    takes_fit s k q y ys b h out (subst (λ z. arg_fits s k z ≡ true) at fit)
    (is ∙ ap (λ zs. each_takes (tests s (k + 1)) zs) (behind ys))

one_suc : {X : Type 0} (xs : List X) (k : ℕ) (x : X) → slice_get xs k ≡ Some x →
    take (suc k) xs ≡ take k xs ++ x ∷ []
one_suc [] k x h = cc
one_suc (y ∷ ys) zero x h = cc
one_suc (y ∷ ys) (suc k) x h = ap (λ t. y ∷ t) (one_suc ys k x h)

-- the qualifiers up to one argument more
pub qualifiers_more : (s : MethodType) (k : ℕ) (q : Qualifier) →
    slice_get (qualifiers_of s) k ≡ Some q →
    take (k + 1) (qualifiers_of s) ≡ take k (qualifiers_of s) ++ q ∷ []
qualifiers_more s k q h =
    let more : k + 1 ≡ suc k = omega arith in
    ap (λ n. take n (qualifiers_of s)) more ∙ one_suc (qualifiers_of s) k q h

pub ruleset qualifier_steps = (qualifiers_more)

-- past the last argument no value is passed
pub passed_past : (s : MethodType) (k : ℕ) (old vs : List Value) → length s.args ≤ k →
    old ≡ old ++ inputs_by (drop k s.args) vs
passed_past s k old vs h =
    sym (ap (λ es. old ++ inputs_by es vs) (none_left s.args k h) ∙ append-nil old)

-- without a value none is passed
pub passed_none : (es : List QualifiedType) (old vs : List Value) → length vs < 1 →
    old ≡ old ++ inputs_by es vs
passed_none [] old vs h = sym (append-nil old)
passed_none (e ∷ es) old [] h = sym (append-nil old)
passed_none (e ∷ es) old (v ∷ vs) h = absurd (omega (arith, h))

-- the first value is passed as the argument at the place says
passed_next : (s : MethodType) (k : ℕ) (q : Qualifier) (v : Value) (vs : List Value) →
    slice_get (qualifiers_of s) k ≡ Some q →
    inputs_by (drop k s.args) (v ∷ vs) ≡ cond q.goes_in v Nil ∷ inputs_by (drop (k + 1) s.args) vs
passed_next s k q v vs h =
    let f = stands_first (is_oneway s) s.args k q h in
    ap (λ es. inputs_by es (v ∷ vs)) (first_is s k q f)
    ∙ ap (λ (w : Qualifier). cond w.goes_in v Nil ∷ inputs_by (drop (k + 1) s.args) vs) f.is

-- the first value is appended as it is passed, and those behind it follow
pub passed_at : (s : MethodType) (k : ℕ) (q : Qualifier) (xs : List Value) (v w : Value)
    (old mid new : List Value) → 1 ≤ length xs → v ≡ get_or xs 0 v →
    slice_get (qualifiers_of s) k ≡ Some q → w ≡ cond q.goes_in v Nil → mid ≡ old ++ w ∷ [] →
    new ≡ mid ++ inputs_by (drop (k + 1) s.args) (take (length xs - 1) (drop 1 xs)) →
    new ≡ old ++ inputs_by (drop k s.args) xs
passed_at s k q [] v w old mid new some at h is more rest = absurd (omega (arith, some))
passed_at s k q (y ∷ ys) v w old mid new some at h is more rest =
    let others = inputs_by (drop (k + 1) s.args) ys in
    rest ∙ ap (λ zs. mid ++ inputs_by (drop (k + 1) s.args) zs) (behind ys)
    ∙ ap (λ m. m ++ others) more ∙ append_assoc old (w ∷ []) others
    ∙ ap (λ u. old ++ u ∷ others) (is ∙ ap (λ z. cond q.goes_in z Nil) at)
    ∙ ap (λ zs. old ++ zs) (sym (passed_next s k q y ys h))

-- past the last argument nothing comes out
pub outs_past : {X : Type 0} (s : MethodType) (k : ℕ) (old xs : List X) → length s.args ≤ k →
    old ≡ old ++ outs_by (is_oneway s) (drop k s.args) xs
outs_past s k old xs h =
    sym (ap (λ es. old ++ outs_by (is_oneway s) es xs) (none_left s.args k h) ∙ append-nil old)

-- of an empty list nothing comes out
pub outs_none : {X : Type 0} (oneway : Bool) (es : List QualifiedType) (old xs : List X) →
    length xs < 1 → old ≡ old ++ outs_by oneway es xs
outs_none oneway [] old xs h = sym (append-nil old)
outs_none oneway (e ∷ es) old [] h = sym (append-nil old)
outs_none oneway (e ∷ es) old (x ∷ xs) h = absurd (omega (arith, h))

-- a member alone, and then the others
one_first : {X : Type 0} (b : Bool) (x : X) (xs : List X) →
    cond b (x ∷ []) [] ++ xs ≡ cond b (x ∷ xs) xs
one_first true x xs = refl
one_first false x xs = refl

-- the first member comes out where the argument at the place does
outs_next : {X : Type 0} (s : MethodType) (k : ℕ) (q : Qualifier) (x : X) (xs : List X) →
    slice_get (qualifiers_of s) k ≡ Some q →
    outs_by (is_oneway s) (drop k s.args) (x ∷ xs)
    ≡ cond q.comes_out (x ∷ outs_by (is_oneway s) (drop (k + 1) s.args) xs)
    (outs_by (is_oneway s) (drop (k + 1) s.args) xs)
outs_next s k q x xs h =
    let f = stands_first (is_oneway s) s.args k q h in
    let others = outs_by (is_oneway s) (drop (k + 1) s.args) xs in
    ap (λ es. outs_by (is_oneway s) es (x ∷ xs)) (first_is s k q f)
    ∙ ap (λ (w : Qualifier). cond w.comes_out (x ∷ others) others) f.is

-- the first member is appended where it comes out, and those behind it follow
pub outs_at : {X : Type 0} (s : MethodType) (k : ℕ) (q : Qualifier) (xs : List X) (x : X)
    (old mid new : List X) → 1 ≤ length xs → x ≡ get_or xs 0 x →
    slice_get (qualifiers_of s) k ≡ Some q → mid ≡ old ++ cond q.comes_out (x ∷ []) [] →
    new ≡ mid ++ outs_by (is_oneway s) (drop (k + 1) s.args) (take (length xs - 1) (drop 1 xs)) →
    new ≡ old ++ outs_by (is_oneway s) (drop k s.args) xs
outs_at s k q [] x old mid new some at h more rest = absurd (omega (arith, some))
outs_at s k q (y ∷ ys) x old mid new some at h more rest =
    let es = drop (k + 1) s.args in
    let others = outs_by (is_oneway s) es ys in
    rest ∙ ap (λ zs. mid ++ outs_by (is_oneway s) es zs) (behind ys)
    ∙ ap (λ m. m ++ others) more ∙ append_assoc old (cond q.comes_out (x ∷ []) []) others
    ∙ ap (λ zs. old ++ zs) (one_first q.comes_out x others)
    ∙ ap (λ z. old ++ cond q.comes_out (z ∷ others) others) at
    ∙ ap (λ zs. old ++ zs) (sym (outs_next s k q y ys h))

-- what follows of a value holds where a call gave one
pub on_ok : {A E : Type 0} {P Q : Type 0} (r : Result A E) → (P → Q) → OnOk r P → OnOk r Q
on_ok (Ok x) f p = f p
on_ok (Err e) f p = tt
