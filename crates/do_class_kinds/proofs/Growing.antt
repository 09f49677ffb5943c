-- How what is made of a list grows, item by item.
use Rattle.std.proofs.Common.{◌≡◌, ℕ, ◌+◌, ◌<◌, List, [], ◌∷◌, ◌++◌, length, map, take, get_or}
use Rattle.std.proofs.Common.{Option, Some, None, refl, sym, ◌∙◌, ap}
use Rattle.std.specs.{List.{cons_option, filter_map}, Option.option_to_list}
use Rattle.std.proofs.lemmas.List.{map-append, map_more, Elements.filter_map-append}

-- an item that is there or not, before no others
single : {A : Type 0} (o : Option A) → cons_option o [] ≡ option_to_list o
single None = refl
single (Some x) = refl

module _ {A B C : Type 0} (v : A → B) (xs : List A) (k : ℕ) (x d : A) (within : k < length xs)
    (is : x ≡ get_or xs k d) (old new : List C) where
  -- what one more item may make joins what those before it made
  pub maybe_more : (f : B → Option C) → old ≡ filter_map f (map v (take k xs))
      → new ≡ old ++ option_to_list (f (v x)) → new ≡ filter_map f (map v (take (k + 1) xs))
  maybe_more f made grown =
      let more = map_more v xs k d within in
      let split = filter_map-append f (map v (take k xs)) (v (get_or xs k d) ∷ []) in
      let last = single (f (v (get_or xs k d))) in
      let whole : filter_map f (map v (take (k + 1) xs))
      ≡ filter_map f (map v (take k xs)) ++ option_to_list (f (v (get_or xs k d))) =
      rw (more, split, last) in
      let here = ap (λ (y : A). old ++ option_to_list (f (v y))) is in
      let before = ap (λ ys. ys ++ option_to_list (f (v (get_or xs k d)))) made in
      grown ∙ here ∙ before ∙ sym whole

  -- what one more item makes joins what those before it made
  pub surely_more : (f : B → C) → old ≡ map f (map v (take k xs))
      → new ≡ old ++ f (v x) ∷ [] → new ≡ map f (map v (take (k + 1) xs))
  surely_more f made grown =
      let more = map_more v xs k d within in
      let split = map-append f (map v (take k xs)) (v (get_or xs k d) ∷ []) in
      let whole : map f (map v (take (k + 1) xs))
      ≡ map f (map v (take k xs)) ++ f (v (get_or xs k d)) ∷ [] = rw (more, split) in
      let here = ap (λ (y : A). old ++ f (v y) ∷ []) is in
      let before = ap (λ ys. ys ++ f (v (get_or xs k d)) ∷ []) made in
      grown ∙ here ∙ before ∙ sym whole
