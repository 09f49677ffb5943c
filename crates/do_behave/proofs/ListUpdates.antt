-- Lists with items set.
use Rattle.std.proofs.Common.{◌≡◌, ℕ, zero, suc, ◌≤◌, List, [], ◌∷◌, length, Some, None, refl, sym}
use Rattle.std.{proofs.Common.{◌∙◌, ap, arith}, specs.Prelude.{slice_get, slice_set, remove}}
use Rattle.do_behave.specs.{InPlace.written, Changes.with_set, declared.act.Write.Write}
use Rattle.do_behave.specs.declared.change.LocalSet.{LocalSet}
use Rattle.do_base.specs.declared.values.value.Value.{Value}
use Rattle.do_behave.specs.LongerList.{longer, longer_at}

-- past the end nothing is set
pub set_past : {X : Type 0} (xs : List X) (i : ℕ) (x : X) → length xs ≤ i → slice_set xs i x ≡ xs
set_past [] i x h = refl
set_past (y ∷ ys) zero x h = absurd (omega (arith, h))
set_past (y ∷ ys) (suc i) x h = ap (λ t. y ∷ t) (set_past ys i x (omega arith))

-- an item set to itself changes nothing
pub set_same : {X : Type 0} (xs : List X) (i : ℕ) (x : X) → slice_get xs i ≡ Some x
    → slice_set xs i x ≡ xs
set_same [] i x e = refl
set_same (y ∷ ys) zero x e = cc
set_same (y ∷ ys) (suc i) x e = ap (λ t. y ∷ t) (set_same ys i x e)

-- what two answers of the same value have is the same
pub some_is : {A : Type 0} {x y : A} → Some x ≡ Some y → x ≡ y
some_is e = cc

-- an item more in the list at a place
pub set_longer : (xs : List Value) (i : ℕ) (x y item : Value) → slice_get xs i ≡ Some x
    → y ≡ longer x item → slice_set xs i y ≡ longer_at xs i item
set_longer [] i x y item found is = cc
set_longer (z ∷ zs) zero x y item found is =
    ap (λ v. v ∷ zs) (is ∙ ap (λ v. longer v item) (sym (some_is found)))
set_longer (z ∷ zs) (suc i) x y item found is =
    ap (λ t. z ∷ t) (set_longer zs i x y item found is)

-- past the end there is no item
pub get_past : {X : Type 0} (xs : List X) (i : ℕ) → length xs ≤ i → slice_get xs i ≡ None
get_past [] i h = refl
get_past (y ∷ ys) zero h = absurd (omega (arith, h))
get_past (y ∷ ys) (suc i) h = get_past ys i (omega arith)

pub ruleset set_steps = (set_past, set_same, set_longer, get_past)

-- the first write, and then the others
pub written_first : (slots : List Value) (ws : List Write) (w : Write) → slice_get ws 0 ≡ Some w
    → written (slice_set slots w.slot w.value) (remove ws 0) ≡ written slots ws
written_first slots [] w e = cc
written_first slots (x ∷ ws) w e =
    ap (λ (v : Write). written (slice_set slots v.slot v.value) ws) (sym (some_is e))

-- the first local that is set, and then the others
pub set_first : (locals : List Value) (ss : List LocalSet) (s : LocalSet) → slice_get ss 0 ≡ Some s
    → with_set (slice_set locals s.local s.value) (remove ss 0) ≡ with_set locals ss
set_first locals [] s e = cc
set_first locals (x ∷ ss) s e =
    ap (λ (v : LocalSet). with_set (slice_set locals v.local v.value) ss) (sym (some_is e))
