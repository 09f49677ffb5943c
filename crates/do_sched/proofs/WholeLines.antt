-- Whole lines of text: whether one is a given line, and what bytes of such lines are.
use Rattle.do_grammar.specs.Lines as text
use Rattle.std.proofs.Common.{◌≡◌, ◌≢◌, ℕ, ◌+◌, ◌<◌, Bool, true, false, List as Listed, [], ◌∷◌}
use Rattle.std.proofs.Common.{◌++◌, length, map, refl, sym, ap, ◌∙◌, append_assoc, arith}
use Rattle.std.specs.{Prelude.◌&&◌, List.{flat_map, AllByRecursion}, Str.bytes_eq}
use Rattle.std.proofs.lemmas.Slice.Eq.{bytes_eq-Decides}
use Rattle.do_grammar.{specs.Lines.{cut, line_bytes}, proofs.texts.LinesExact.cut_whole}
use Rattle.do_sched.specs.{Spelling.fed, Schedule.whole, Reading.is_whole}

-- a line that passes the test is this text with its line feed
pub is_whole_true : (wanted : Listed ℕ) (t : text.Line) → is_whole wanted t ≡ true
    → t ≡ whole wanted
is_whole_true wanted t e = go t.fed refl e
  where
    go : (u : Bool) → t.fed ≡ u → (u && bytes_eq t.text wanted) ≡ true → t ≡ whole wanted
    go true p q =
        ap (λ (w : Listed ℕ). record { text = w; fed = t.fed })
        ((bytes_eq-Decides t.text wanted).0 q)
        ∙ ap (λ (w : Bool). record { text = wanted; fed = w }) p
    go false p q = absurd cc

-- one that fails it is not
pub is_whole_false : (wanted : Listed ℕ) (t : text.Line) → is_whole wanted t ≡ false
    → t ≢ whole wanted
is_whole_false wanted t e = λ (same_line : t ≡ whole wanted). let f =
    ap (is_whole wanted) same_line in let g = (bytes_eq-Decides wanted wanted).1 refl in absurd cc

-- the bytes of whole lines stand one behind the other
pub whole_lines : {A : Type 0} (spelling : A → Listed ℕ) (lines : Listed A)
    (rest : Listed text.Line)
    → flat_map line_bytes (map (λ l. whole (spelling l)) lines ++ rest)
    ≡ flat_map (λ l. fed (spelling l)) lines ++ flat_map line_bytes rest
whole_lines spelling [] rest = refl
whole_lines spelling (l ∷ lines) rest =
    ap (λ (w : Listed ℕ). fed (spelling l) ++ w) (whole_lines spelling lines rest)
    ∙ sym (append_assoc (fed (spelling l)) (flat_map (λ m. fed (spelling m)) lines)
    (flat_map line_bytes rest))

-- bytes without a line are none
pub cut_none : (bytes : Listed ℕ) → cut bytes ≡ [] → bytes ≡ []
cut_none bytes e = sym (cut_whole bytes) ∙ ap (flat_map line_bytes) e

-- bytes have a first line
pub cut_some : (bytes : Listed ℕ) → 0 < length bytes → (t : text.Line) × (rest : Listed text.Line)
    × (cut bytes ≡ t ∷ rest)
cut_some bytes lt = go (cut bytes) refl
  where
    go : (ls : Listed text.Line) → cut bytes ≡ ls → (t : text.Line) × (rest : Listed text.Line)
        × (cut bytes ≡ t ∷ rest)
    go [] e = absurd (omega (arith, ap length (cut_none bytes e)))
    go (t ∷ rest) e = (t, rest, e)

-- good lines and one more good line are good lines
pub all_more : {A : Type 0} (P : A → Type 0) (ls : Listed A) (l : A) → AllByRecursion P ls → P l
    → AllByRecursion P (ls ++ l ∷ [])
all_more P [] l p q = (q, tt)
all_more P (m ∷ ls) l p q = (p.0, all_more P ls l p.1 q)
