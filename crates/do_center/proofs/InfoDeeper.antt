-- User information in a list stands one list deeper.
use Rattle.std.proofs.Common.{◌≡◌, ℕ, zero, suc, ◌<◌, ◌-◌, List as Listed, map, ◌∙◌, ap, arith}
use Rattle.std.{proofs.Common.{Bool, rules}, specs.List.list_all}
use Rattle.std.proofs.lemmas.List.Folds.{list_all-map}
use Rattle.do_base.specs.declared.values.value.Value.{Value, List, the_lemmas}
use Rattle.do_center.specs.Notes.{info_within}

-- a list is within a depth where its items are within one less
info_of_List : (vs : Listed Value) (n : ℕ)
    → info_within (List vs) (suc n) ≡ list_all (λ within. within n) (map info_within vs)
info_of_List vs n = search (rules, the_lemmas)

-- and that is so of each item
pub info_deeper : (vs : Listed Value) (depth : ℕ) → 0 < depth
    → info_within (List vs) depth ≡ list_all (λ v. info_within v (depth - 1)) vs
info_deeper vs zero above = absurd (none above)
  where
    none : 0 < 0 → ⊥
    none h = omega arith
info_deeper vs (suc n) above =
    let same : n ≡ suc n - 1 = omega arith in
    info_of_List vs n ∙ list_all-map (λ (within : ℕ → Bool). within n) info_within vs
    ∙ ap (λ k. list_all (λ v. info_within v k) vs) same
