-- The last of some blocks shows one line more.
use Rattle.do_grammar.specs.Lines as text
use Rattle.std.proofs.Common.{◌≡◌, true, false, eqb, ℕ, ◌+◌, List, [], ◌∷◌, ◌++◌, Some, None, inl}
use Rattle.std.proofs.Common.{inr, Err, Result, refl, sym, ap, ◌∙◌, length, append_assoc, subst}
use Rattle.std.specs.Prelude.{option_map}
use Rattle.std.proofs.lemmas.Bool.{cases_Bool, both_ways, cond-false, cond-true}
use Rattle.do_grammar.specs.Lines.{cut, in_front}
use Rattle.do_record.specs.{Line.text_of, Recorded.{HasShown, ended_by, read_lines, with_shown}}
use Rattle.do_sched.specs.declared.fault.SchedFault.{SchedFault, TheVariants.BadLine}
use Rattle.do_record.specs.declared.{parts.Record.Record, line.RecordText.TheVariants.{Bad, End}}
use Rattle.do_record.specs.declared.{line.RecordText.TheVariants.{Input, Shown}, parts.Block.Block}

-- a block behind others is the last
pub shown_last : (line : List ℕ) (bs : List Block) (b : Block) →
    with_shown line (bs ++ b ∷ []) ≡ Some (bs ++ record b { shown = b.shown ++ line } ∷ [])
shown_last line [] b = refl
shown_last line (c ∷ []) b = refl
shown_last line (c ∷ d ∷ bs) b =
    ap (option_map (λ all. c ∷ all)) (shown_last line (d ∷ bs) b)

-- the last block once its text grew by a line and a line feed
pub shown_added : (line : List ℕ) (old rest new : List Block) (b : Block) (s t : List ℕ) →
    old ≡ rest ++ b ∷ [] → s ≡ b.shown ++ line → t ≡ s ++ 10 ∷ [] →
    new ≡ rest ++ record b { shown = t } ∷ [] →
    HasShown (with_shown (line ++ 10 ∷ []) old) true new
shown_added line old rest new b s t old_is s_is t_is new_is =
    let whole : t ≡ b.shown ++ (line ++ 10 ∷ []) =
    t_is ∙ ap (λ bytes. bytes ++ 10 ∷ []) s_is ∙ append_assoc b.shown line (10 ∷ []) in
    subst (λ o. HasShown o true new)
    (sym (ap (with_shown (line ++ 10 ∷ [])) old_is ∙ shown_last (line ++ 10 ∷ []) rest b))
    (refl, new_is ∙ ap (λ bytes. rest ++ record b { shown = bytes } ∷ []) whole)

-- the lines of a text with one more byte in front are some
front_some : (b : ℕ) (ls : List text.Line) → (u : text.Line) × (us : List text.Line)
    × (in_front b ls ≡ u ∷ us)
front_some b [] = (record { text = b ∷ []; fed = false }, [], refl)
front_some b (l ∷ ls) = (record { text = b ∷ l.text; fed = l.fed }, ls, refl)

-- a text that is not empty has a line
cut_some : (bytes : List ℕ) → false ≡ eqb (length bytes) 0 → (u : text.Line)
    × (us : List text.Line) × (cut bytes ≡ u ∷ us)
cut_some [] e = absurd (both_ways true (sym e) refl)
cut_some (b ∷ bytes) e =
    let front = front_some b (cut bytes) in
    elim (cases_Bool (eqb b 10)) [
      | inl is ↦ (
        record { text = []; fed = true },
        cut bytes,
        cond-true (eqb b 10) (record { text = []; fed = true } ∷ cut bytes)
            (in_front b (cut bytes)) is,
      )
      | inr other ↦ (
        front.0,
        front.1,
        cond-false (eqb b 10) (record { text = []; fed = true } ∷ cut bytes)
            (in_front b (cut bytes)) other ∙ front.2,
      )
    ]

-- what stands behind the last line of a record is at fault
pub behind_end : (w : Result Record SchedFault) (port n : ℕ) (blocks : List Block) (t : text.Line)
    (rest after : List ℕ) → w ≡ read_lines port n blocks (cut rest) → cut rest ≡ t ∷ cut after →
    text_of port t ≡ End → false ≡ eqb (length after) 0 → Err (BadLine (n + 1)) ≡ w
behind_end w port n blocks t rest after e lines_are is_end some =
    let first = cut_some after some in
    let lines : cut rest ≡ t ∷ first.0 ∷ first.1 = lines_are ∙ ap (λ ls. t ∷ ls) first.2 in
    sym (e ∙ ap (read_lines port n blocks) lines
    ∙ ap (λ kind. elim kind [
      | Bad ↦ Err (BadLine n)
      | End ↦ ended_by port n blocks (first.0 ∷ first.1)
      | Input input ↦ read_lines port (n + 1)
          (blocks ++ record { line = n; input = input; shown = [] } ∷ []) (first.0 ∷ first.1)
      | Shown ↦ elim (with_shown (t.text ++ 10 ∷ []) blocks) [
        | None ↦ Err (BadLine n)
        | Some more ↦ read_lines port (n + 1) more (first.0 ∷ first.1)
      ]
    ]) is_end)
