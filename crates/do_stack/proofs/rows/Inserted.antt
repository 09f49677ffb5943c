-- Where an element goes in a list in order.
use Rattle.std.proofs.Common.{◌≡◌, ℕ, suc, ◌+◌, Bool, true, false, cond, not, List, ◌∷◌, length}
use Rattle.std.proofs.Common.{Some, None, refl, ap, ◌∙◌, arith}
use Rattle.std.specs.{Prelude.nat_lt, List.position_or_len}
use Rattle.do_machine.specs.Lists.{put_at, inserted}
use Rattle.do_stack.proofs.rows.NumbersCompared.{is_before, one_higher}

module _ {X : Type 0} (before : X → X → Bool) (x y : X) (ys : List X) where
  -- an element goes before the first, which comes after it
  pub inserted_first : before x y ≡ true → inserted before x (y ∷ ys) ≡ x ∷ y ∷ ys
  inserted_first h =
      let rest = position_or_len (before x) ys in
      let len = length ys in
      ap (λ b. put_at x (y ∷ ys)
      (cond (nat_lt (cond (not b) (1 + rest) 0) (suc len)) (Some (cond (not b) (1 + rest) 0)) None))
      h
      ∙ ap (λ b. put_at x (y ∷ ys) (cond b (Some 0) None)) (is_before 0 (suc len) (omega arith))

  -- an element goes behind the first, which does not come after it
  pub inserted_later : before x y ≡ false → inserted before x (y ∷ ys) ≡ y ∷ inserted before x ys
  inserted_later h =
      let rest = position_or_len (before x) ys in
      let len = length ys in
      ap (λ b. put_at x (y ∷ ys)
      (cond (nat_lt (cond (not b) (1 + rest) 0) (suc len)) (Some (cond (not b) (1 + rest) 0)) None))
      h
      ∙ ap (λ n. put_at x (y ∷ ys) (cond (nat_lt n (suc len)) (Some n) None)) (next rest)
      ∙ ap (λ b. put_at x (y ∷ ys) (cond b (Some (suc rest)) None)) (one_higher rest len)
      ∙ behind rest (nat_lt rest len)
    where
      -- one more is the next number
      next : (n : ℕ) → 1 + n ≡ suc n
      next n = omega arith

      -- it stands one place later then, or behind all
      behind : (at : ℕ) (b : Bool) → put_at x (y ∷ ys) (cond b (Some (suc at)) None)
          ≡ y ∷ put_at x ys (cond b (Some at) None)
      behind at true = refl
      behind at false = refl
