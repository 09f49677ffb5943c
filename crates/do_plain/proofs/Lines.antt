-- Texts of lines none of which says what was sent.
use Rattle.std.proofs.Common.{◌≡◌, ℕ, true, false, List, [], ◌∷◌, ◌++◌, refl, sym, ap, ◌∙◌}
use Rattle.std.proofs.Common.{append_assoc}
use Rattle.std.specs.{Prelude.{codes, filter, ◌==◌}, List.{AllByRecursion, flat_map, starts_with}}
use Rattle.std.proofs.lemmas.Grind.{flat_map-append}
use Rattle.do_grammar.specs.{Lines.{cut, line_bytes}, Words.Without}
use Rattle.do_grammar.proofs.texts.LinesExact.{cut_line}
use Rattle.do_lines.specs.Lines.{joined}
use Rattle.do_agreement.specs.WithoutWires.{is_local, without_wires}
use Rattle.do_facts.proofs.EachOfLists.{each_joined}

-- a line has no line feed in it and says nothing of what was sent
pub record IsPlainLine (line : List ℕ) : Type 0 where
  pub free : Without 10 line
  pub other : starts_with (λ (a b : ℕ). a == b) line (codes "wire ") ≡ false

-- A text is of such lines, each with its line feed
pub record IsPlain (text : List ℕ) : Type 0 where
  pub lines : List (List ℕ)
  pub each : AllByRecursion IsPlainLine lines
  pub joins : text ≡ joined lines

-- lines in a row
pub in_a_row : (lines : List (List ℕ)) → AllByRecursion IsPlainLine lines →
    IsPlain (joined lines)
in_a_row lines each = record { lines = lines; each = each; joins = refl }

-- one line
pub one_line : (line : List ℕ) → IsPlainLine line → IsPlain (joined (line ∷ []))
one_line line is = in_a_row (line ∷ []) (is, tt)

-- such a text behind another
pub behind : {a b : List ℕ} → IsPlain a → IsPlain b → IsPlain (a ++ b)
behind {a = a} {b = b} x y = record {
  lines = x.lines ++ y.lines;
  each = each_joined IsPlainLine x.lines y.lines x.each y.each;
  joins = ap (λ t. t ++ b) x.joins ∙ ap (λ t. joined x.lines ++ t) y.joins
      ∙ sym (flat_map-append (λ (line : List ℕ). line ++ 10 ∷ []) x.lines y.lines);
}

-- all of such lines is kept
joined_stay : (lines : List (List ℕ)) → AllByRecursion IsPlainLine lines →
    without_wires (joined lines) ≡ joined lines
joined_stay [] h = refl
joined_stay (line ∷ lines) h =
    ap without_wires (append_assoc line (10 ∷ []) (joined lines))
    ∙ ap (λ ls. flat_map line_bytes (filter is_local ls))
    (cut_line line (joined lines) h.0.free)
    ∙ kept
    ∙ ap (λ t. (line ++ 10 ∷ []) ++ t) (joined_stay lines h.1)
  where
    kept : flat_map line_bytes (filter is_local
        (record { text = line; fed = true } ∷ cut (joined lines)))
        ≡ (line ++ 10 ∷ []) ++ without_wires (joined lines)
    kept = rw h.0.other refl

-- and so is such a text
pub plain_stays : (text : List ℕ) → IsPlain text → without_wires text ≡ text
plain_stays text is =
    ap without_wires is.joins ∙ joined_stay is.lines is.each ∙ sym is.joins
