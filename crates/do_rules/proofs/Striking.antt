-- Rounds of striking.
use Rattle.std.proofs.Common.{◌≡◌, ℕ, zero, suc, ◌-◌, ◌<◌, ◌==◌, Bool, true, false, cond, List, []}
use Rattle.std.proofs.Common.{◌∷◌, filter, length, not, refl, ap, ◌∙◌, subst, arith}
use Rattle.std.proofs.lemmas.{Bool.{eq-eqb, eqb-true}, List.Filters.length-filter_both}
use Rattle.do_machine.specs.declared.node.{Node.Node, Stored.Stored}
use Rattle.do_machine.specs.held.Kept.{stays, struck, struck_by}

-- where as many pass as there are, all do
all_pass : {X : Type 0} (p : X → Bool) (xs : List X) → length (filter p xs) ≡ length xs →
    filter p xs ≡ xs
all_pass p [] h = refl
all_pass p (x ∷ xs) h =
    elim (p x) as (λ b. length (cond b (x ∷ filter p xs) (filter p xs)) ≡ suc (length xs) →
    cond b (x ∷ filter p xs) (filter p xs) ≡ x ∷ xs) [
      | true ↦ λ h. ap (λ ys. x ∷ ys) (all_pass p xs (omega (arith, h)))
      | false ↦ λ h. absurd (omega
          (arith, h, length-filter_both p (λ y. not (p y)) (λ y. refl) xs))
    ] h

-- a round that strikes nothing is the last
pub round_last : (rounds : ℕ) (entry : ℕ → ℕ → Bool) (n : Node)
    (heap fewer whole : List Stored) → 0 < rounds → fewer ≡ struck entry n heap →
    length fewer ≡ length heap → struck_by rounds entry n heap ≡ whole → fewer ≡ whole
round_last zero entry n heap fewer whole more is same before = absurd (omega (arith, more))
round_last (suc r) entry n heap fewer whole more is same before =
    let many : length (struck entry n heap) ≡ length heap =
    subst (λ xs. length xs ≡ length heap) is same in
    let last : heap ≡ whole =
    subst (λ b. elim b [ true ↦ heap | false ↦ struck_by r entry n (struck entry n heap) ]
    ≡ whole) (eq-eqb (length (struck entry n heap)) (length heap) many) before in
    is ∙ all_pass (stays entry n heap) heap many ∙ last

not_equal : (a b : ℕ) → (a ≡ b → ⊥) → (a == b) ≡ false
not_equal a b h =
    elim (a == b) as (λ c. (a == b) ≡ c → c ≡ false) [
      | true ↦ λ e. absurd (h (eqb-true a b e))
      | false ↦ λ e. refl
    ] refl

-- a round that strikes something goes on with what is left
pub round_more : (rounds : ℕ) (entry : ℕ → ℕ → Bool) (n : Node)
    (heap fewer whole : List Stored) → 0 < rounds → fewer ≡ struck entry n heap →
    (length fewer ≡ length heap → ⊥) → struck_by rounds entry n heap ≡ whole →
    struck_by (rounds - 1) entry n fewer ≡ whole
round_more zero entry n heap fewer whole more is differs before = absurd (omega (arith, more))
round_more (suc r) entry n heap fewer whole more is differs before =
    let d : (length (struck entry n heap) == length heap) ≡ false =
    not_equal (length (struck entry n heap)) (length heap)
    (subst (λ f. length f ≡ length heap → ⊥) is differs) in
    let less : suc r - 1 ≡ r = omega arith in
    let next : struck_by r entry n (struck entry n heap) ≡ whole =
    subst (λ b. elim b [ true ↦ heap | false ↦ struck_by r entry n (struck entry n heap) ]
    ≡ whole) d before in
    ap (λ k. struck_by k entry n fewer) less ∙ ap (λ f. struck_by r entry n f) is ∙ next
