-- Scripts make no heavy value.
use Rattle.std.proofs.Common.{◌≡◌, ◌≤◌, ◌&&◌, true, inl, inr, List as Listed, [], ◌∷◌, ◌++◌, length}
use Rattle.std.{proofs.Common.arith, specs.{List.{All, Contains}, Prelude.{nat_le, sum_by}}}
use Rattle.std.proofs.lemmas.{Bool.{and_parts, leb-true}, List.Elements.{All-nil, All-cons}}
use Rattle.std.proofs.lemmas.List.{Elements.{All-weaker, All-contains_itself}, Sums.sum_by-cons}
use Rattle.do_base.proofs.Weights.{weight_of-Nil, weight_of-Num, weight_of-Text, weight_of-Obj}
use Rattle.do_base.specs.values.{Texts.longest_text, Values.weight_of}
use Rattle.do_base.specs.declared.values.value.Value.{Value, List}
use Rattle.do_behave.specs.{laws.Sound.IsKept, Limits.nests_within, Lists.can_be}
use Rattle.do_behave.specs.{laws.Nesting.weight_of-items, Parts.{StandsIn, IsFoundIn, WeighsWithin}}
use Rattle.do_behave.specs.declared.invocation.Invocation.{Invocation}

-- the items of a list stand where it stands
item_stands : (vs : Listed Value) (item whole : Value) → Contains vs item → StandsIn (List vs) whole
    → StandsIn item whole
item_stands vs item _ there StandsIn.itself = StandsIn.inside vs item there StandsIn.itself
item_stands vs item _ there (StandsIn.inside ws other at stands) =
    StandsIn.inside ws other at (item_stands vs item other there stands)

module _ (inv : Invocation) (shown : Listed Value) where
  -- the items of a list that weighs no more than may be weigh no more
  items_weigh : (vs : Listed Value) → sum_by weight_of vs ≤ 2097152 → All (WeighsWithin shown) vs
  items_weigh [] weighs = All-nil (WeighsWithin shown)
  items_weigh (v ∷ vs) weighs =
      let sum = sum_by-cons weight_of v vs in
      All-cons (WeighsWithin shown) v vs (inl (omega (arith, sum, weighs)))
      (items_weigh vs (omega (arith, sum, weighs)))

  found_items : (vs : Listed Value) → IsFoundIn shown (List vs) → All (WeighsWithin shown) vs
  found_items vs found =
      All-weaker (Contains vs) (WeighsWithin shown)
      (λ item there. inr (record {
        whole = found.whole;
        there = found.there;
        stands = item_stands vs item found.whole there found.stands;
      }))
      vs (All-contains_itself vs)

  list_items : (vs : Listed Value) → WeighsWithin shown (List vs) → All (WeighsWithin shown) vs
  list_items vs (inl weighs) = items_weigh vs (omega (arith, weight_of-items vs, weighs))
  list_items vs (inr found) = found_items vs found

  pushed_weighs : (vs : Listed Value) → can_be vs ≡ true → weight_of (List vs) ≤ 2097152
  pushed_weighs vs fits =
      let limits =
      and_parts (nat_le (length vs) 1024)
      (nests_within (List vs) 8 && nat_le (weight_of (List vs)) 2097152) fits in
      let others =
      and_parts (nests_within (List vs) 8) (nat_le (weight_of (List vs)) 2097152) limits.1 in
      leb-true (weight_of (List vs)) 2097152 others.1

  pub weights_kept : IsKept inv (WeighsWithin shown) (λ s. length s ≤ longest_text) (λ _. Unit {0})
  weights_kept = record {
    nil = inl (omega (arith, weight_of-Nil));
    number = λ z. inl (omega (arith, weight_of-Num z));
    text = λ s short. inl (omega (arith, weight_of-Text s, short));
    own = inl (omega (arith, weight_of-Obj inv.object));
    empty = inl (omega (arith, weight_of-items []));
    items = list_items;
    pushed = λ vs v _ _ fits. inl (pushed_weighs (vs ++ v ∷ []) fits);
    raised = λ s _. tt;
  }

-- what was shown may weigh what it does
pub shown_weighs : (shown : Listed Value) → All (WeighsWithin shown) shown
shown_weighs shown =
    All-weaker (Contains shown) (WeighsWithin shown)
    (λ v there. inr (record { whole = v; there = there; stands = StandsIn.itself })) shown
    (All-contains_itself shown)
