-- What comes of the elements that pass a test, up to one element more.
use Rattle.std.proofs.Common.{◌≡◌, ℕ, ◌+◌, ◌<◌, List, [], ◌∷◌, ◌++◌, length, take, get_or, Bool}
use Rattle.std.proofs.Common.{true, false, cond, filter, map, ap, sym, ◌∙◌}
use Rattle.std.proofs.lemmas.List.{append-nil, map-append, take_more, Elements.filter-append}

module _ {X Y Z : Type 0} (f : Y → Z) (p : Y → Bool) (g : X → Y) where
  -- what comes of elements
  abbrev come : List X → List Z
  come xs = map f (filter p (map g xs))

  -- an element more
  one_more : (xs : List X) (i : ℕ) (x : X) → i < length xs → x ≡ get_or xs i x →
      come (take (i + 1) xs)
      ≡ come (take i xs) ++ map f (cond (p (g x)) (g x ∷ []) [])
  one_more xs i x h at =
      ap come (take_more xs i x h ∙ ap (λ y. take i xs ++ y ∷ []) (sym at))
      ∙ ap (λ ys. map f (filter p ys)) (map-append g (take i xs) (x ∷ []))
      ∙ ap (map f) (filter-append p (map g (take i xs)) (g x ∷ []))
      ∙ map-append f (filter p (map g (take i xs))) (filter p (g x ∷ []))

  -- one that passes comes behind the others
  pub passed_more : (xs : List X) (i : ℕ) (x : X) → i < length xs → x ≡ get_or xs i x →
      p (g x) ≡ true → map f (filter p (map g (take (i + 1) xs)))
      ≡ map f (filter p (map g (take i xs))) ++ f (g x) ∷ []
  passed_more xs i x h at passes =
      one_more xs i x h at
      ∙ ap (λ b. come (take i xs) ++ map f (cond b (g x ∷ []) [])) passes

  -- one that fails leaves them
  pub failed_more : (xs : List X) (i : ℕ) (x : X) → i < length xs → x ≡ get_or xs i x →
      p (g x) ≡ false → map f (filter p (map g (take (i + 1) xs)))
      ≡ map f (filter p (map g (take i xs)))
  failed_more xs i x h at fails =
      one_more xs i x h at
      ∙ ap (λ b. come (take i xs) ++ map f (cond b (g x ∷ []) [])) fails
      ∙ append-nil (come (take i xs))

pub ruleset passing_steps = (passed_more, failed_more)
