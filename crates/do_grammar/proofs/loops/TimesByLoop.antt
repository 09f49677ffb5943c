-- Reading values one after the other by a state, as a loop does.
use Rattle.std.proofs.Common.{◌≡◌, ℕ, suc, ◌-◌, ◌+◌, ◌<◌, List, [], ◌∷◌, ◌++◌, Result, Ok, refl}
use Rattle.std.{proofs.Common.{sym, ◌∙◌, arith}, specs.List.fold}
use Rattle.do_grammar.{specs.Reader.{Stop, Reader}, proofs.loops.TimesLoop.{with_front, regroup}}
use Rattle.do_grammar.specs.OneSpelling.{times_by}

module _ {A S : Type 0} (r : S → Reader (Unit {0}) A) (after : S → A
    → S) (front : List A) (count i : ℕ) (s : S) (bytes : List ℕ)
    (total : Result (List A × List ℕ) (Stop (Unit {0})))
    (so_far : with_front front (times_by r after (count - i) s bytes) ≡ total) where
  -- one more value was read
  pub value_turn_by : i < count → (x : A) (rest : List ℕ) → r s bytes ≡ Ok (x, rest)
      → with_front (front ++ x ∷ []) (times_by r after (count - (i + 1)) (after s x) rest) ≡ total
  value_turn_by lt x rest h =
      let k : count - i ≡ suc (count - (i + 1)) = omega arith in
      let one : with_front front (times_by r after (count - i) s bytes)
      ≡ with_front (front ++ x ∷ []) (times_by r after (count - (i + 1)) (after s x) rest) =
      rw (k, h) (regroup front x (times_by r after (count - (i + 1)) (after s x) rest)) in
      sym one ∙ so_far

-- one more value leaves the state that it leads to
pub fold_push : {A S : Type 0} (after : S → A → S) (s : S) (xs : List A) (x : A)
    → fold after s (xs ++ x ∷ []) ≡ after (fold after s xs) x
fold_push after s [] x = refl
fold_push after s (y ∷ xs) x = fold_push after (after s y) xs x
