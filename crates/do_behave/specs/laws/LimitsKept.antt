-- Scripts keep the limits.
use Rattle.std.proofs.Common.{◌≡◌, ℕ, zero, suc, ◌≤◌, ◌-◌, Bool, true, ◌&&◌, List as Listed, []}
use Rattle.std.proofs.Common.{◌∷◌, ◌++◌, length, map, refl, sym, ◌∙◌, ap, subst, arith, rules}
use Rattle.std.specs.{Prelude.{nat_le, sum_by}, List.{All, AllByRecursion, list_all}}
use Rattle.std.proofs.lemmas.{Bool.{and_parts, and_from, leb-true, le-leb}, List.length-map}
use Rattle.std.proofs.lemmas.List.Elements.{All-nil, All-cons}
use Rattle.std.proofs.lemmas.List.{Folds.{list_all-map, list_all-append}, Sums.sum_by-cons}
use Rattle.do_base.proofs.Weights.{weight_of-Nil, weight_of-Num, weight_of-Text, weight_of-Obj}
use Rattle.do_base.specs.values.{Texts.longest_text, Induction.value_induction, Values.weight_of}
use Rattle.do_base.specs.declared.values.value.Value.{Value, List, the_lemmas, TheVariants.Text}
use Rattle.do_behave.specs.{laws.Sound.IsKept, Limits.{IsLimited, has_small_parts, nests_within}}
use Rattle.do_behave.specs.{Lists.can_be, laws.Nesting.nests_within-deeper}
use Rattle.do_behave.specs.laws.Nesting.{nests_within-List_none, weight_of-items}
use Rattle.do_behave.specs.declared.invocation.Invocation.{Invocation}

small-Text : (s : Listed ℕ) → has_small_parts (Text s) ≡ nat_le (length s) longest_text
small-Text s = search (rules, the_lemmas)

small-List : (vs : Listed Value)
    → has_small_parts (List vs) ≡
    (nat_le (length (map has_small_parts vs)) 1024
    && list_all (λ b. b) (map has_small_parts vs))
small-List vs = search (rules, the_lemmas)

-- the parts of a list are the parts of its items
small-items : (vs : Listed Value)
    → has_small_parts (List vs) ≡ (nat_le (length vs) 1024 && list_all has_small_parts vs)
small-items vs =
    small-List vs
    ∙ ap (λ n. nat_le n 1024 && list_all (λ b. b) (map has_small_parts vs))
    (length-map vs has_small_parts)
    ∙ ap (λ b. nat_le (length vs) 1024 && b) (list_all-map (λ (b : Bool). b) has_small_parts vs)

each_deeper : (vs : Listed Value) (n : ℕ)
    → AllByRecursion (λ v. (n : ℕ) → nests_within v n ≡ true → nests_within v (suc n) ≡ true) vs
    → list_all (λ v. nests_within v n) vs ≡ true → list_all (λ v. nests_within v (suc n)) vs ≡ true
each_deeper [] n rest all = refl
each_deeper (v ∷ vs) n rest all =
    let parts = and_parts (nests_within v n) (list_all (λ w. nests_within w n) vs) all in
    and_from (nests_within v (suc n)) (list_all (λ w. nests_within w (suc n)) vs) (rest.0 n parts.0)
    (each_deeper vs n rest.1 parts.1)

list_deeper : (vs : Listed Value)
    → AllByRecursion (λ v. (n : ℕ) → nests_within v n ≡ true → nests_within v (suc n) ≡ true) vs
    → (n : ℕ) → nests_within (List vs) n ≡ true → nests_within (List vs) (suc n) ≡ true
list_deeper vs rest zero nests = let none = sym (nests_within-List_none vs) ∙ nests in cc
list_deeper vs rest (suc n) nests =
    let inner : list_all (λ v. nests_within v (suc n - 1)) vs ≡ true =
    sym (nests_within-deeper vs (suc n) (omega arith)) ∙ nests in
    let same : suc n - 1 ≡ n = omega arith in
    let here : list_all (λ v. nests_within v n) vs ≡ true =
    subst (λ k. list_all (λ v. nests_within v k) vs ≡ true) same inner in
    let more : suc (suc n) - 1 ≡ suc n = omega arith in
    nests_within-deeper vs (suc (suc n)) (omega arith)
    ∙ subst (λ k. list_all (λ v. nests_within v k) vs ≡ true) (sym more)
    (each_deeper vs n rest here)

-- what nests within a depth nests within one more
deeper : (v : Value) (n : ℕ) → nests_within v n ≡ true → nests_within v (suc n) ≡ true
deeper =
    value_induction (λ v. (n : ℕ) → nests_within v n ≡ true → nests_within v (suc n) ≡ true)
    (λ n _. search (rules, the_lemmas)) (λ z n _. search (rules, the_lemmas))
    (λ s n _. search (rules, the_lemmas)) (λ o n _. search (rules, the_lemmas)) list_deeper

items_limited : (most : ℕ) (vs : Listed Value) → list_all has_small_parts vs ≡ true
    → list_all (λ v. nests_within v 7) vs ≡ true → sum_by weight_of vs ≤ most
    → All (IsLimited most) vs
items_limited most [] small nests weighs = All-nil (IsLimited most)
items_limited most (v ∷ vs) small nests weighs =
    let smalls = and_parts (has_small_parts v) (list_all has_small_parts vs) small in
    let nestings = and_parts (nests_within v 7) (list_all (λ w. nests_within w 7) vs) nests in
    let sum = sum_by-cons weight_of v vs in
    All-cons (IsLimited most) v vs
    (record {
      parts = smalls.0;
      nesting = deeper v 7 nestings.0;
      weight = omega (arith, sum, weighs);
    })
    (items_limited most vs smalls.1 nestings.1 (omega (arith, sum, weighs)))

module _ (inv : Invocation) (most : ℕ) (high : 2097152 ≤ most) where
  list_limited : (vs : Listed Value) → IsLimited most (List vs) → All (IsLimited most) vs
  list_limited vs q =
      let parts =
      and_parts (nat_le (length vs) 1024) (list_all has_small_parts vs)
      (sym (small-items vs) ∙ q.parts) in
      items_limited most vs parts.1 (sym (nests_within-deeper vs 8 (omega arith)) ∙ q.nesting)
      (omega (arith, weight_of-items vs, q.weight))

  push_limited : (vs : Listed Value) (v : Value) → IsLimited most (List vs) → IsLimited most v
      → can_be (vs ++ v ∷ []) ≡ true → IsLimited most (List (vs ++ v ∷ []))
  push_limited vs v list item fits =
      let limits =
      and_parts (nat_le (length (vs ++ v ∷ [])) 1024)
      (nests_within (List (vs ++ v ∷ [])) 8
      && nat_le (weight_of (List (vs ++ v ∷ []))) 2097152) fits in
      let others =
      and_parts (nests_within (List (vs ++ v ∷ [])) 8)
      (nat_le (weight_of (List (vs ++ v ∷ []))) 2097152) limits.1 in
      let old =
      and_parts (nat_le (length vs) 1024) (list_all has_small_parts vs)
      (sym (small-items vs) ∙ list.parts) in
      let all : list_all has_small_parts (vs ++ v ∷ []) ≡ true =
      list_all-append has_small_parts vs (v ∷ [])
      ∙ and_from (list_all has_small_parts vs) (has_small_parts v && true) old.1
      (and_from (has_small_parts v) true item.parts refl) in
      record {
        parts = small-items (vs ++ v ∷ [])
            ∙ and_from (nat_le (length (vs ++ v ∷ [])) 1024)
            (list_all has_small_parts (vs ++ v ∷ [])) limits.0 all;
        nesting = others.0;
        weight = omega (arith, leb-true (weight_of (List (vs ++ v ∷ []))) 2097152 others.1, high);
      }

  pub limits_kept : IsKept inv (IsLimited most) (λ s. length s ≤ longest_text)
      (λ s. length s ≤ longest_text)
  limits_kept = record {
    nil =
        record {
          parts = search (rules, the_lemmas);
          nesting = search (rules, the_lemmas);
          weight = omega (arith, weight_of-Nil, high);
        };
    number =
        λ z. record {
          parts = search (rules, the_lemmas);
          nesting = search (rules, the_lemmas);
          weight = omega (arith, weight_of-Num z, high);
        };
    text = λ s short. record {
      parts = small-Text s ∙ le-leb (length s) longest_text short;
      nesting = search (rules, the_lemmas);
      weight = omega (arith, weight_of-Text s, high, short);
    };
    own =
        record {
          parts = search (rules, the_lemmas);
          nesting = search (rules, the_lemmas);
          weight = omega (arith, weight_of-Obj inv.object, high);
        };
    empty =
        record {
          parts = small-items [];
          nesting = nests_within-deeper [] 8 (omega arith);
          weight = omega (arith, weight_of-items [], high);
        };
    items = list_limited;
    pushed = push_limited;
    raised = λ s q. leb-true (length s) longest_text (sym (small-Text s) ∙ q.parts);
  }
