-- Texts that are added one behind another.
use Rattle.std.proofs.Common.{◌≡◌, ◌++◌, ◌∙◌, Err, List, Ok, Result, ap, append_assoc, ℕ}
use Rattle.std.specs.Prelude.{OnOk, codes}
use Rattle.do_make.specs.{Text.{counted, done_text, left_text}, declared.counts.Summary.Summary}

-- four that are added one by one stand behind what was there
pub four_behind : {T E : Type 0} (result : Result T E) (o p q r t a b c d : List ℕ) → p ≡ o ++ a
    → q ≡ p ++ b → r ≡ q ++ c → OnOk result (t ≡ r ++ d)
    → OnOk result (t ≡ o ++ (a ++ b ++ c ++ d))
four_behind (Ok u) o p q r t a b c d first second third last =
    last
    ∙ ap (λ w. w ++ d) (third ∙ ap (λ w. w ++ c) (second ∙ ap (λ w. w ++ b) first
    ∙ append_assoc o a b) ∙ append_assoc o (a ++ b) c)
    ∙ append_assoc o (a ++ b ++ c) d
four_behind (Err e) o p q r t a b c d first second third last = tt

module _ {T E : Type 0} (result : Result T E) (o p q r t : List ℕ) (s : Summary) where
  -- the lines of what was done
  pub done_behind : p ≡ o ++ counted (codes "lines") s.lines
      → q ≡ p ++ counted (codes "skips") s.skips → r ≡ q ++ counted (codes "says") s.says
      → OnOk result (t ≡ r ++ counted (codes "frees") s.frees) → OnOk result (t ≡ o ++ done_text s)
  unfolding done_text
  done_behind first second third last = four_behind result o p q r t _ _ _ _ first second third last

  -- the lines of what is left
  pub left_behind : p ≡ o ++ counted (codes "objects") s.objects
      → q ≡ p ++ counted (codes "entries") s.entries → r ≡ q ++ counted (codes "frames") s.frames
      → OnOk result (t ≡ r ++ counted (codes "bytes") s.bytes) → OnOk result (t ≡ o ++ left_text s)
  unfolding left_text
  left_behind first second third last = four_behind result o p q r t _ _ _ _ first second third last
