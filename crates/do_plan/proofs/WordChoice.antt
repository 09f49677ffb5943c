-- Choices by a first word, and words without a byte.
use Rattle.std.proofs.Common.{◌≡◌, ℕ, ◌<◌, ◌^◌, Bool, true, false, cond, List as Listed, [], ◌∷◌}
use Rattle.std.proofs.Common.{◌++◌, Option, Some, refl, arith}
use Rattle.std.specs.{Prelude.{not, ◌==◌}, List.list_all, Fmt.decimal, Str.bytes_eq}
use Rattle.std.proofs.lemmas.Slice.Eq.{bytes_eq-Decides}
use Rattle.do_grammar.{specs.Words.Without, proofs.texts.WordBytes.{Without-passes, Without-append}}
use Rattle.do_grammar.proofs.texts.IntExact.{Without-decimal}
use Rattle.do_plan.specs.Reading.{on_word}

-- a choice by a first word that comes to a line comes to it by this word, or by another
pub by_word : {A P : Type 0} (wanted first : Listed ℕ) (line other : Option A) (l : A)
    → on_word wanted first line other ≡ Some l → (first ≡ wanted → line ≡ Some l → P)
    → (other ≡ Some l → P) → P
by_word {P = P} wanted first line other l h same others = go (bytes_eq first wanted) refl h
  where
    go : (t : Bool) → bytes_eq first wanted ≡ t → cond t line other ≡ Some l → P
    go true p q = same ((bytes_eq-Decides first wanted).0 p) q
    go false p q = others q

-- a text that a test finds without a line feed has none
pub feed_free : (bytes : Listed ℕ) → list_all (λ b. not (b == 10)) bytes ≡ true → Without 10 bytes
feed_free bytes h = Without-passes (λ b. not (b == 10)) 10 bytes refl h

-- nor has it with a number behind it
pub numbered_free : (word : Listed ℕ) (n : ℕ) → list_all (λ b. not (b == 10)) word ≡ true
    → n < 2 ^ 64 → Without 10 (word ++ decimal n)
numbered_free word n h k =
    Without-append 10 word (decimal n) (feed_free word h) (Without-decimal 10 n (omega arith) k)

-- a byte that stands nowhere in a text stands nowhere behind its front
pub Without-behind : (end : ℕ) (a b : Listed ℕ) → Without end (a ++ b) → Without end b
Without-behind end [] b h = h
Without-behind end (x ∷ a) b h = Without-behind end a b h.1
