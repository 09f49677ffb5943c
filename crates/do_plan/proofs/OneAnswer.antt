-- Bytes are the text of one list of lines, or have one fault.
use Rattle.do_grammar.specs.Lines as text
use Rattle.std.proofs.Common.{◌≡◌, ◌≢◌, ℕ, ◌+◌, ◌≤◌, Bool, true, false, cond, leb, List as Listed}
use Rattle.std.proofs.Common.{[], ◌∷◌, ◌++◌, length, map, Option, Some, None, Result, Ok, Err, refl}
use Rattle.std.proofs.Common.{sym, ap, ◌∙◌, append_assoc, arith}
use Rattle.std.{specs.List.{flat_map, AllByRecursion}, proofs.lemmas.Bool.{le-leb, lt-leb}}
use Rattle.std.proofs.lemmas.{Slice.Eq.bytes_eq-Decides, List.{append-nil, length-append}}
use Rattle.do_grammar.{specs.Lines.cut, proofs.texts.LinesExact.cut_line}
use Rattle.do_sched.specs.declared.fault.SchedFault.{SchedFault}
use Rattle.do_sched.specs.declared.fault.SchedFault.TheVariants.{BadLine, TooMany, NoEnd, Memory}
use Rattle.do_sched.specs.{Answers.AnswersWith, Reading.is_whole, Schedule.whole}
use Rattle.do_sched.{specs.Spelling.{footer, fed}, proofs.WholeLines.is_whole_true}
use Rattle.do_plan.specs.Form.{Form, IsText, Opens, IsNoLine, IsBadLine, at_first, between, early}
use Rattle.do_plan.specs.Form.{behind, IsTooMany, over, IsEndMissing, at_start, later, IsFault}
use Rattle.do_plan.{specs.Reading.{Reads, Tells, line_in}, proofs.LinesSoFar.line_in_takes}

-- a line that is another text is not that text
not_line : (wanted : Listed ℕ) (t : text.Line) → t ≢ whole wanted → is_whole wanted t ≡ false
not_line wanted t h = go (is_whole wanted t) refl
  where
    go : (u : Bool) → is_whole wanted t ≡ u → is_whole wanted t ≡ false
    go true e = absurd (h (is_whole_true wanted t e))
    go false e = e

-- a text with its line feed is that text
is_itself : (wanted : Listed ℕ) → is_whole wanted (whole wanted) ≡ true
is_itself wanted = (bytes_eq-Decides wanted wanted).1 refl

module _ {A : Type 0} (form : Form A) (line_at : Listed ℕ → Option A)
    (reads : Reads form line_at) where
  -- ---- the one answer to the lines of a text

  -- what a line that is read leads to; one that is none is faulty
  abbrev at_line : Option A → (A → Result (Listed A) SchedFault) → ℕ → Result (Listed A) SchedFault
  at_line None f k = Err (BadLine k)
  at_line (Some l) f k = f l

  -- nothing may stand behind the last line
  abbrev at_end : Listed A → ℕ → Listed text.Line → Result (Listed A) SchedFault
  at_end lines k [] = Ok lines
  at_end lines k (t ∷ rest) = Err (BadLine (k + 1))

  -- behind these lines, before line k
  abbrev answer_behind : Listed A → ℕ → Listed text.Line → Result (Listed A) SchedFault
  answer_behind lines k [] = Err (NoEnd k)
  answer_behind lines k (t ∷ rest) =
      cond (is_whole footer t)
      (cond (leb form.least (length lines)) (at_end lines k rest) (Err (BadLine k)))
      (at_line (line_in line_at t) (λ l.
      cond (leb (length lines + 1) form.most) (answer_behind (lines ++ l ∷ []) (k + 1) rest)
      (Err (TooMany k))) k)

  -- the whole text
  abbrev answer : Listed text.Line → Result (Listed A) SchedFault
  answer [] = Err (NoEnd 1)
  answer (t ∷ rest) =
      cond (is_whole form.header t) (answer_behind [] 2 rest) (Err (BadLine 1))

  -- good lines in front lead to the answer behind them
  walk : (more lines : Listed A) (k : ℕ) (rest : Listed text.Line)
      → AllByRecursion form.IsGood more → length lines + length more ≤ form.most
      → answer_behind lines k (map (λ l. whole (form.spelling l)) more ++ rest)
      ≡ answer_behind (lines ++ more) (k + length more) rest
  walk [] lines k rest h few =
      ap (λ (w : Listed A). answer_behind w k rest) (sym (append-nil lines))
      ∙ ap (λ (w : ℕ). answer_behind (lines ++ []) w rest) (omega arith)
  walk (l ∷ more) lines k rest h few =
      let small : length lines + 1 ≤ form.most = omega arith in
      let sums : length (lines ++ l ∷ []) + length more ≤ form.most =
      simp length-append (omega arith) in
      let again = walk more (lines ++ l ∷ []) (k + 1) rest h.1 sums in
      rw (reads.no_end l h.0, reads.reads_spelling l h.0, le-leb (length lines + 1) form.most small)
      (again ∙ ap (λ (w : Listed A). answer_behind w (k + 1 + length more) rest)
      (append_assoc lines (l ∷ []) more)
      ∙ ap (λ (w : ℕ). answer_behind (lines ++ l ∷ more) w rest) (omega arith))

  module _ (bytes : Listed ℕ) where
    -- where a text begins with some lines, the answer is that behind them
    opens_answer : (lines : Listed A) (rest : Listed text.Line) → Opens form bytes lines rest
        → answer (cut bytes) ≡ answer_behind lines (length lines + 2) rest
    opens_answer lines rest o =
        let few = o.few in
        let all = walk lines [] 2 rest o.good (omega arith) in
        ap answer o.spelled ∙ ap (λ (b : Bool). cond b (answer_behind [] 2
        (map (λ l. whole (form.spelling l)) lines ++ rest)) (Err (BadLine 1)))
        (is_itself form.header)
        ∙ all ∙ ap (λ (w : ℕ). answer_behind lines w rest) (omega arith)

  -- ---- each of the definitions gives it

  -- the bytes of good lines are cut into these lines
  text_lines : (lines : Listed A) → AllByRecursion form.IsGood lines
      → cut (flat_map (λ l. fed (form.spelling l)) lines ++ fed footer)
      ≡ map (λ l. whole (form.spelling l)) lines ++ whole footer ∷ []
  text_lines [] h = refl
  text_lines (l ∷ lines) h =
      ap cut (append_assoc (fed (form.spelling l)) (flat_map (λ m. fed (form.spelling m)) lines)
      (fed footer)
      ∙ append_assoc (form.spelling l) (10 ∷ []) (flat_map (λ m. fed (form.spelling m)) lines
      ++ fed footer))
      ∙ cut_line (form.spelling l) (flat_map (λ m. fed (form.spelling m)) lines ++ fed footer)
      (reads.no_feed l h.0)
      ∙ ap (λ (w : Listed text.Line). whole (form.spelling l) ∷ w) (text_lines lines h.1)

  module _ (bytes : Listed ℕ) where
    -- a text begins with all its lines, and `end` is left
    text_opens : (lines : Listed A) → IsText form bytes lines
        → Opens form bytes lines (whole footer ∷ [])
    text_opens lines s = record {
      spelled =
          ap cut (s.spelled
          ∙ append_assoc (fed form.header) (flat_map (λ m. fed (form.spelling m)) lines)
          (fed footer)
          ∙ append_assoc form.header (10 ∷ []) (flat_map (λ m. fed (form.spelling m)) lines
          ++ fed footer))
          ∙ cut_line form.header (flat_map (λ m. fed (form.spelling m)) lines ++ fed footer)
          reads.header_free
          ∙ ap (λ (w : Listed text.Line). whole form.header ∷ w) (text_lines lines s.good);
      good = s.good;
      few = s.few;
    }

    -- a text is answered with its lines
    text_answer : (lines : Listed A) → IsText form bytes lines → answer (cut bytes) ≡ Ok lines
    text_answer lines s =
        opens_answer bytes lines (whole footer ∷ []) (text_opens lines s)
        ∙ rw (le-leb form.least (length lines) s.enough) refl

    -- a line that is neither `end` nor a good one reads as none
    none_in : (t : text.Line) → IsNoLine form t → line_in line_at t ≡ None
    none_in t h = go (line_in line_at t) refl
      where
        go : (o : Option A) → line_in line_at t ≡ o → line_in line_at t ≡ None
        go None e = e
        go (Some l) e =
            let r = line_in_takes form line_at reads t l e in absurd (h.no_line l r.1 r.0)

    -- a line that may not stand at its place is answered as such
    bad_answer : (n : ℕ) → IsBadLine form bytes n → answer (cut bytes) ≡ Err (BadLine n)
    bad_answer n (at_first t rest e h) = ap answer e ∙ rw (not_line form.header t h) refl
    bad_answer n (between lines t rest o h) =
        opens_answer bytes lines (t ∷ rest) o ∙ rw (not_line footer t h.no_end, none_in t h) refl
    bad_answer n (early lines rest o lt) =
        opens_answer bytes lines (whole footer ∷ rest) o
        ∙ rw (lt-leb form.least (length lines) lt) refl
    bad_answer n (behind lines t rest o enough) =
        opens_answer bytes lines (whole footer ∷ t ∷ rest) o
        ∙ rw (le-leb form.least (length lines) enough)
        (ap (λ (w : ℕ). Err (BadLine w)) {x = length lines + 2 + 1} (omega arith))

    -- so is a line with which there are too many
    many_answer : (n : ℕ) → IsTooMany form bytes n → answer (cut bytes) ≡ Err (TooMany n)
    many_answer n (over lines l rest o h many) =
        opens_answer bytes lines (whole (form.spelling l) ∷ rest) o
        ∙ rw (reads.no_end l h, reads.reads_spelling l h, lt-leb (length lines + 1) form.most many)
        refl

    -- so is an end that is missing
    missing_answer : (n : ℕ) → IsEndMissing form bytes n → answer (cut bytes) ≡ Err (NoEnd n)
    missing_answer n (at_start e) = ap (λ (w : Listed ℕ). answer (cut w)) e
    missing_answer n (later lines o) = opens_answer bytes lines [] o

    -- each fault of the bytes is answered
    fault_answer : (fault : SchedFault) → IsFault form bytes fault → answer (cut bytes) ≡ Err fault
    fault_answer (BadLine n) h = bad_answer n h
    fault_answer (TooMany n) h = many_answer n h
    fault_answer (NoEnd n) h = missing_answer n h
    fault_answer Memory h = absurd h

    -- what an answer tells makes it the one, unless memory ran out
    one : (wanted result : Result (Listed A) SchedFault) → answer (cut bytes) ≡ wanted
        → Tells form bytes result → AnswersWith wanted result
    one wanted (Ok lines) e h = sym (text_answer lines h) ∙ e
    one wanted (Err (BadLine n)) e h = sym (bad_answer n h) ∙ e
    one wanted (Err (TooMany n)) e h = sym (many_answer n h) ∙ e
    one wanted (Err (NoEnd n)) e h = sym (missing_answer n h) ∙ e
    one wanted (Err Memory) e h = tt

    -- what is answered of a text is its lines, unless memory ran out
    pub accepted : (result : Result (Listed A) SchedFault) → Tells form bytes result
        → (lines : Listed A) → IsText form bytes lines → AnswersWith (Ok lines) result
    accepted result h lines s = one (Ok lines) result (text_answer lines s) h

    -- what is answered of other bytes is their fault, unless memory ran out
    pub refused : (result : Result (Listed A) SchedFault) → Tells form bytes result
        → (fault : SchedFault) → IsFault form bytes fault → AnswersWith (Err fault) result
    refused result h fault f = one (Err fault) result (fault_answer fault f) h
