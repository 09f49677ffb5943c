-- The first line of a text.
use Rattle.std.proofs.Common.{◌≡◌, ℕ, ◌<◌, false, List, [], ◌∷◌, ◌++◌, length, refl, ap, ◌∙◌, arith}
use Rattle.std.{specs.Prelude.true, proofs.lemmas.{Bool.ne_eqb, List.length-append}}
use Rattle.do_grammar.specs.{Words.Without, Lines.{in_front, cut}}
use Rattle.do_grammar.proofs.texts.LinesExact.{cut_line}

-- the bytes before the first line feed are the first line
pub cut_some : (bytes text rest : List ℕ) → bytes ≡ text ++ 10 ∷ rest → Without 10 text
    → cut bytes ≡ record { text = text; fed = true } ∷ cut rest
cut_some bytes text rest e h = ap cut e ∙ cut_line text rest h

-- bytes without a line feed are one line, if there are any
pub cut_none : (bytes : List ℕ) → Without 10 bytes → 0 < length bytes
    → cut bytes ≡ record { text = bytes; fed = false } ∷ []
cut_none [] h l = absurd (omega arith)
cut_none (b ∷ []) h l = rw (ne_eqb b 10 h.0) refl
cut_none (b ∷ c ∷ bytes) h l =
    rw (ne_eqb b 10 h.0) (ap (in_front b) (cut_none (c ∷ bytes) h.1 (omega arith)))

-- fewer bytes stand behind a line
pub line_shorter : (bytes text rest : List ℕ) → bytes ≡ text ++ 10 ∷ rest
    → length rest < length bytes
line_shorter bytes text rest e = omega (arith, ap length e, length-append text (10 ∷ rest))

pub ruleset first_line_facts = (cut_some, cut_none, line_shorter)
