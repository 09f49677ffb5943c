-- Choices by a first word.
use Rattle.std.proofs.Common.{◌≡◌, ℕ, Bool, true, false, List as Listed, ◌∷◌, ◌++◌, Some, refl, ap}
use Rattle.std.{proofs.Common.◌∙◌, specs.{Prelude.◌||◌, Str.bytes_eq}}
use Rattle.std.proofs.lemmas.Slice.Eq.{bytes_eq-Decides}
use Rattle.do_grammar.{specs.Words.word, proofs.texts.WordExact.word_takes}

-- a test that one of two passes leads on from either
pub either : {P : Type 0} (x y : Bool) → (x || y) ≡ true → (x ≡ true → P) → (y ≡ true → P) → P
either true y h left right = left refl
either false y h left right = right h

-- a text that is equal to another is that
pub same_text : (t wanted : Listed ℕ) → bytes_eq t wanted ≡ true → t ≡ wanted
same_text t wanted h = (bytes_eq-Decides t wanted).0 h

-- a first word and what stands behind it make the text
pub first_word : (first : Listed ℕ) (bytes : Listed ℕ) (w : Listed ℕ × Listed ℕ)
    → word 32 bytes ≡ Some w → bytes_eq w.0 first ≡ true → bytes ≡ first ++ 32 ∷ w.1
first_word first bytes w h e =
    word_takes 32 bytes w h ∙ ap (λ u. u ++ 32 ∷ w.1) (same_text w.0 first e)
