-- A loop over a list that adds to what was there before it.
use Rattle.std.proofs.Common.{◌≡◌, ℕ, ◌<◌, ◌+◌, List, [], ◌∷◌, ◌++◌, length, get_or, take, sym, ap}
use Rattle.std.proofs.{Common.◌∙◌, lemmas.List.take_more}

module _ {X M : Type 0} (f : List X → M) (op : M → M → M)
    (apart : (xs ys : List X) → f (xs ++ ys) ≡ op (f xs) (f ys)) where
  -- one more item, where its part is known
  pub grown_one : (xs : List X) (i : ℕ) (x : X) (v : M) → i < length xs → x ≡ get_or xs i x →
      f (x ∷ []) ≡ v → op (f (take i xs)) v ≡ f (take (i + 1) xs)
  grown_one xs i x v lt is one =
      ap (op (f (take i xs))) (sym one ∙ ap (λ y. f (y ∷ [])) is)
      ∙ sym (apart (take i xs) (get_or xs i x ∷ [])) ∙ ap f (sym (take_more xs i x lt))

  -- and behind what was there before the loop
  pub grown : {before now after : M} → ((a b c : M) → op (op a b) c ≡ op a (op b c)) →
      (xs : List X) (i : ℕ) (x : X) (v : M) → i < length xs → x ≡ get_or xs i x → f (x ∷ []) ≡ v →
      now ≡ op before (f (take i xs)) → after ≡ op now v → after ≡ op before (f (take (i + 1) xs))
  grown {before = before} assoc xs i x v lt is one e last =
      last ∙ ap (λ a. op a v) e ∙ assoc before (f (take i xs)) v
      ∙ ap (op before) (grown_one xs i x v lt is one)
