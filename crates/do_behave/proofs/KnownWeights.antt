-- What is known of a list's weight, with one item more too.
use Rattle.std.proofs.Common.{◌≡◌, ℕ, zero, suc, List as Listed, [], ◌∷◌, ◌++◌, ◌<◌, ◌+◌, ◌-◌, Some}
use Rattle.std.proofs.Common.{None, Bool, refl, true, false, ◌&&◌, nat_lt, nat_le, length, sym, ◌∙◌}
use Rattle.std.{proofs.Common.{ap, subst, arith}, specs.List.list_all}
use Rattle.std.proofs.lemmas.Grind.{common_steps}
use Rattle.do_base.specs.values.{Values.weight_of, Kinds.items}
use Rattle.do_base.specs.declared.values.value.Value.{Value, List}
use Rattle.do_behave.specs.{KnownWeight.IsKnown, laws.ValueKinds.items-List}
use Rattle.do_behave.specs.{Limits.{left_of, nests_within}, Lists.can_be}
use Rattle.do_behave.specs.LongerList.{FitsIn, longer, longer_than}
use Rattle.do_behave.specs.laws.Nesting.{nests_within-deeper, can_be_push, weight_of-push}

known : (v : Value) (w : ℕ) → w ≡ weight_of v → nests_within v 8 ≡ true → IsKnown v w
known v zero same nests = tt
known v (suc n) same nests = (sym same, nests)

-- what is known is the weight
pub known_weight : (v : Value) (w : ℕ) → IsKnown v w → 0 < w → weight_of v ≡ w
known_weight v zero k above = absurd (none above)
  where
    none : 0 < 0 → ⊥
    none h = omega arith
known_weight v (suc n) k above = k.0

-- and the items of a list nest within one less
pub known_nests : (vs : Listed Value) (w : ℕ) → IsKnown (List vs) w → 0 < w
    → list_all (λ v. nests_within v 7) vs ≡ true
known_nests vs zero k above = absurd (none above)
  where
    none : 0 < 0 → ⊥
    none h = omega arith
known_nests vs (suc n) k above = sym (nests_within-deeper vs 8 (omega arith)) ∙ k.1

-- a list with one item more has it behind the others
pub longer_list : (vs : Listed Value) (v : Value) → longer (List vs) v ≡ List (vs ++ v ∷ [])
longer_list vs v = ap (λ o. longer_than o (List vs) v) (items-List vs)

same_items : (vs ws : Listed Value) → Some vs ≡ Some ws → vs ≡ ws
same_items vs ws e = cc

-- what an item more needs of the value is that it is this list
pub fits_list : (vs : Listed Value) (v : Value) (w : ℕ) → FitsIn (List vs) v w
    → (can_be (vs ++ v ∷ []) ≡ true) × (w ≡ weight_of (List (vs ++ v ∷ [])))
fits_list vs v w fits =
    let same : vs ≡ fits.0 =
    same_items vs fits.0 (sym (items-List vs) ∙ ap items fits.1 ∙ items-List fits.0) in
    subst (λ ws. (can_be (ws ++ v ∷ []) ≡ true) × (w ≡ weight_of (List (ws ++ v ∷ [])))) (sym same)
    (fits.2, fits.3)

-- what is left of a limit says that the weight keeps it, and what it is
left_keeps : (most weight rest : ℕ) → Some rest ≡ left_of most weight → nat_le weight most ≡ true
left_keeps most weight rest e = grind (arith, common_steps)

left_is : (most weight rest : ℕ) → Some rest ≡ left_of most weight → most - rest ≡ weight
left_is most weight rest e = grind (arith, common_steps)

none_left : (most weight : ℕ) → None ≡ left_of most weight → nat_le weight most ≡ false
none_left most weight e = grind (arith, common_steps)

and_true : (a b c : Bool) → (a && b) ≡ true → c ≡ true → (a && (b && c)) ≡ true
and_true true true c e f = f
and_true true false c e f = cc
and_true false b c e f = cc

and_first : (a b c : Bool) → (a && b) ≡ false → (a && (b && c)) ≡ false
and_first true true c e = cc
and_first true false c e = refl
and_first false b c e = refl

and_last : (a b c : Bool) → c ≡ false → (a && (b && c)) ≡ false
and_last true true c e = e
and_last true false c e = refl
and_last false b c e = refl

module _ (list item : Value) (vs : Listed Value) (is : list ≡ List vs) where
  abbrev few : Bool
  few = nat_lt (length vs) 1024

  abbrev shallow : Bool
  shallow = list_all (λ v. nests_within v 7) vs && nests_within item 7

  abbrev heavy : ℕ
  heavy = weight_of list + weight_of item

  sum_is : heavy ≡ weight_of (List vs) + weight_of item
  sum_is = ap (λ v. weight_of v + weight_of item) is

  -- no list without room can be
  pub without_room : (few && shallow) ≡ false → can_be (vs ++ item ∷ []) ≡ false
  without_room room = can_be_push vs item heavy sum_is
      ∙ and_first few shallow (nat_le heavy 2097152) room

  -- nor one that is too heavy
  pub too_heavy : None ≡ left_of 2097152 heavy → can_be (vs ++ item ∷ []) ≡ false
  too_heavy none = can_be_push vs item heavy sum_is
      ∙ and_last few shallow (nat_le heavy 2097152) (none_left 2097152 heavy none)

  -- one that has room and is not too heavy fits, and weighs what is gone of the limit
  pub fitting : (rest : ℕ) → (few && shallow) ≡ true → Some rest ≡ left_of 2097152 heavy
      → FitsIn list item (2097152 - rest)
  fitting rest room left = (
    vs,
    is,
    can_be_push vs item heavy sum_is
        ∙ and_true few shallow (nat_le heavy 2097152) room (left_keeps 2097152 heavy rest left),
    left_is 2097152 heavy rest left ∙ sum_is ∙ sym (weight_of-push vs item),
  )
