-- Bytes are a schedule of one list of lines, or have one fault.
use Rattle.do_grammar.specs.Lines as text
use Rattle.std.proofs.Common.{◌≡◌, ◌≢◌, ℕ, ◌+◌, ◌≤◌, Bool, true, false, cond, leb, List as Listed}
use Rattle.std.proofs.Common.{[], ◌∷◌, ◌++◌, length, map, Option, Some, None, Result, Ok, Err, refl}
use Rattle.std.proofs.Common.{sym, ap, ◌∙◌, append_assoc, arith}
use Rattle.std.specs.List.{flat_map, AllByRecursion}
use Rattle.std.proofs.lemmas.{Bool.{le-leb, lt-leb}, List.{append-nil, Sums.sum_by-append}}
use Rattle.do_grammar.{specs.Lines.cut, proofs.texts.LinesExact.cut_line}
use Rattle.do_sched.specs.declared.line.Line.{Line, TheVariants.{Start, Run, Take, Close, Lose}}
use Rattle.do_sched.specs.declared.line.Line.TheVariants.{Timeout, Check}
use Rattle.do_sched.specs.declared.fault.SchedFault.{SchedFault}
use Rattle.do_sched.specs.declared.fault.SchedFault.TheVariants.{BadLine, TooMany, NoEnd, Memory}
use Rattle.do_sched.specs.declared.version.Version.{Version, TheVariants.{First, Second}}
use Rattle.do_sched.specs.{Version.header, Spelling.{line_spelling, footer, fed, steps, steps_of}}
use Rattle.do_sched.specs.{Good.IsLineOf, Schedule.{IsScheduleOf, Opens, IsNoLine, IsBadLine}}
use Rattle.do_sched.specs.Schedule.{at_first, between, behind, IsTooMany, over, IsEndMissing}
use Rattle.do_sched.specs.Schedule.{at_start, later, IsFaultOf, most_steps, whole}
use Rattle.do_sched.specs.{Reading.{is_whole, line_in}, Answers.{TellsSchedule, AnswersWith}}
use Rattle.do_sched.proofs.LineWithoutFeed.{header_free, no_feed}
use Rattle.do_sched.proofs.{LinesSoFar.{line_in_takes, line_in_again}, WholeLines.is_whole_true}

-- ---- the one answer to the lines of a text

-- behind these lines, before line k
abbrev at_line : Option Line → (Line → Result (Listed Line) SchedFault) → ℕ
    → Result (Listed Line) SchedFault
at_line None f k = Err (BadLine k)
at_line (Some l) f k = f l

abbrev at_end : Listed Line → ℕ → Listed text.Line → Result (Listed Line) SchedFault
at_end lines k [] = Ok lines
at_end lines k (t ∷ rest) = Err (BadLine (k + 1))

abbrev answer_behind : Version → Listed Line → ℕ → Listed text.Line
    → Result (Listed Line) SchedFault
answer_behind version lines k [] = Err (NoEnd k)
answer_behind version lines k (t ∷ rest) =
    cond (is_whole footer t) (at_end lines k rest)
    (at_line (line_in version t) (λ l.
    cond (leb (steps_of lines + steps l) most_steps)
    (answer_behind version (lines ++ l ∷ []) (k + 1) rest) (Err (TooMany k))) k)

abbrev answer : Version → Listed text.Line → Result (Listed Line) SchedFault
answer version [] = Err (NoEnd 1)
answer version (t ∷ rest) =
    cond (is_whole (header version) t) (answer_behind version [] 2 rest) (Err (BadLine 1))

-- a line of a schedule is not `end`
no_footer : (l : Line) → is_whole footer (whole (line_spelling l)) ≡ false
no_footer (Start node selector values) = refl
no_footer (Run p c) = refl
no_footer (Take p q) = refl
no_footer (Close p q) = refl
no_footer (Lose p q k) = refl
no_footer (Timeout p) = refl
no_footer Check = refl

-- the first line of a schedule is that line
header_whole : (version : Version) → is_whole (header version) (whole (header version)) ≡ true
header_whole First = refl
header_whole Second = refl

-- good lines in front lead to the answer behind them
walk : (version : Version) (more lines : Listed Line) (k : ℕ) (rest : Listed text.Line)
    → AllByRecursion (IsLineOf version) more
    → steps_of lines + steps_of more ≤ most_steps
    → answer_behind version lines k (map (λ l. whole (line_spelling l)) more ++ rest)
    ≡ answer_behind version (lines ++ more) (k + length more) rest
walk version [] lines k rest h few =
    ap (λ (w : Listed Line). answer_behind version w k rest) (sym (append-nil lines))
    ∙ ap (λ (w : ℕ). answer_behind version (lines ++ []) w rest) (omega arith)
walk version (l ∷ more) lines k rest h few =
    let single : steps_of (l ∷ []) ≡ steps l = omega arith in
    let sums_up : steps_of (l ∷ more) ≡ steps_of (l ∷ []) + steps_of more =
    sum_by-append steps (l ∷ []) more in
    let small : steps_of lines + steps l ≤ most_steps = omega arith in
    let sums : steps_of (lines ++ l ∷ []) + steps_of more ≤ most_steps =
    simp sum_by-append (omega arith) in
    let again = walk version more (lines ++ l ∷ []) (k + 1) rest h.1 sums in
    rw (
      no_footer l,
      line_in_again version l h.0,
      le-leb (steps_of lines + steps l) most_steps small,
    )
    (again ∙ ap (λ (w : Listed Line). answer_behind version w (k + 1 + length more) rest)
    (append_assoc lines (l ∷ []) more)
    ∙ ap (λ (w : ℕ). answer_behind version (lines ++ l ∷ more) w rest) (omega arith))

-- where a schedule begins with some lines, the answer is that behind them
opens_answer : (version : Version) (bytes : Listed ℕ) (lines : Listed Line)
    (rest : Listed text.Line)
    → Opens version bytes lines rest
    → answer version (cut bytes) ≡ answer_behind version lines (length lines + 2) rest
opens_answer version bytes lines rest o =
    let few = o.few in
    let all = walk version lines [] 2 rest o.good (omega arith) in
    ap (answer version) o.spelled ∙ ap (λ (b : Bool). cond b (answer_behind version [] 2
    (map (λ l. whole (line_spelling l)) lines ++ rest)) (Err (BadLine 1))) (header_whole version)
    ∙ all ∙ ap (λ (w : ℕ). answer_behind version lines w rest) (omega arith)

-- ---- each of the definitions gives it

-- the bytes of good lines are cut into these lines
schedule_lines : (version : Version) (lines : Listed Line) → AllByRecursion (IsLineOf version) lines
    → cut (flat_map (λ l. fed (line_spelling l)) lines ++ fed footer)
    ≡ map (λ l. whole (line_spelling l)) lines ++ whole footer ∷ []
schedule_lines version [] h = refl
schedule_lines version (l ∷ lines) h =
    ap cut (append_assoc (fed (line_spelling l)) (flat_map (λ m. fed (line_spelling m)) lines)
    (fed footer)
    ∙ append_assoc (line_spelling l) (10 ∷ []) (flat_map (λ m. fed (line_spelling m)) lines
    ++ fed footer))
    ∙ cut_line (line_spelling l) (flat_map (λ m. fed (line_spelling m)) lines ++ fed footer)
    (no_feed version l h.0)
    ∙ ap (λ (w : Listed text.Line). whole (line_spelling l) ∷ w) (schedule_lines version lines h.1)

-- a schedule begins with all its lines, and `end` is left
schedule_opens : (version : Version) (bytes : Listed ℕ) (lines : Listed Line)
    → IsScheduleOf version bytes lines
    → Opens version bytes lines (whole footer ∷ [])
schedule_opens version bytes lines s = record {
  spelled =
      ap cut (s.spelled
      ∙ append_assoc (fed (header version)) (flat_map (λ m. fed (line_spelling m)) lines)
      (fed footer)
      ∙ append_assoc (header version) (10 ∷ []) (flat_map (λ m. fed (line_spelling m)) lines
      ++ fed footer))
      ∙ cut_line (header version) (flat_map (λ m. fed (line_spelling m)) lines ++ fed footer)
      (header_free version)
      ∙ ap (λ (w : Listed text.Line). whole (header version) ∷ w)
      (schedule_lines version lines s.good);
  good = s.good;
  few = s.few;
}

-- a schedule is answered with its lines
schedule_answer : (version : Version) (bytes : Listed ℕ) (lines : Listed Line)
    → IsScheduleOf version bytes lines
    → answer version (cut bytes) ≡ Ok lines
schedule_answer version bytes lines s =
    opens_answer version bytes lines (whole footer ∷ []) (schedule_opens version bytes lines s)

-- a line that is another text is not that text
not_line : (wanted : Listed ℕ) (t : text.Line) → t ≢ whole wanted → is_whole wanted t ≡ false
not_line wanted t h = go (is_whole wanted t) refl
  where
    go : (u : Bool) → is_whole wanted t ≡ u → is_whole wanted t ≡ false
    go true e = absurd (h (is_whole_true wanted t e))
    go false e = e

-- a line that is neither `end` nor any line of a schedule reads as none
none_in : (version : Version) (t : text.Line) → IsNoLine version t → line_in version t ≡ None
none_in version t h = go (line_in version t) refl
  where
    go : (o : Option Line) → line_in version t ≡ o → line_in version t ≡ None
    go None e = e
    go (Some l) e = let r = line_in_takes version t l e in absurd (h.no_line l r.1 r.0)

-- a line that may not stand at its place is answered as such
bad_answer : (version : Version) (bytes : Listed ℕ) (n : ℕ) → IsBadLine version bytes n
    → answer version (cut bytes) ≡ Err (BadLine n)
bad_answer version bytes n (at_first t rest e h) =
    ap (answer version) e ∙ rw (not_line (header version) t h) refl
bad_answer version bytes n (between lines t rest o h) =
    opens_answer version bytes lines (t ∷ rest) o
    ∙ rw (not_line footer t h.no_end, none_in version t h) refl
bad_answer version bytes n (behind lines t rest o) =
    opens_answer version bytes lines (whole footer ∷ t ∷ rest) o
    ∙ ap (λ (w : ℕ). Err (BadLine w)) (omega arith)

-- so is a line with which the steps are too many
many_answer : (version : Version) (bytes : Listed ℕ) (n : ℕ) → IsTooMany version bytes n
    → answer version (cut bytes) ≡ Err (TooMany n)
many_answer version bytes n (over lines l rest o h many) =
    opens_answer version bytes lines (whole (line_spelling l) ∷ rest) o
    ∙ rw (no_footer l, line_in_again version l h, lt-leb (steps_of lines + steps l) most_steps many)
    refl

-- so is an end that is missing
missing_answer : (version : Version) (bytes : Listed ℕ) (n : ℕ) → IsEndMissing version bytes n
    → answer version (cut bytes) ≡ Err (NoEnd n)
missing_answer version bytes n (at_start e) = ap (λ (w : Listed ℕ). answer version (cut w)) e
missing_answer version bytes n (later lines o) = opens_answer version bytes lines [] o

-- each fault of the bytes is answered
fault_answer : (version : Version) (bytes : Listed ℕ) (fault : SchedFault)
    → IsFaultOf version bytes fault
    → answer version (cut bytes) ≡ Err fault
fault_answer version bytes (BadLine n) h = bad_answer version bytes n h
fault_answer version bytes (TooMany n) h = many_answer version bytes n h
fault_answer version bytes (NoEnd n) h = missing_answer version bytes n h
fault_answer version bytes Memory h = absurd h

-- what an answer tells makes it the one, unless memory ran out
one : (version : Version) (bytes : Listed ℕ) (wanted result : Result (Listed Line) SchedFault)
    → answer version (cut bytes) ≡ wanted → TellsSchedule version bytes result
    → AnswersWith wanted result
one version bytes wanted (Ok lines) e h = sym (schedule_answer version bytes lines h) ∙ e
one version bytes wanted (Err (BadLine n)) e h = sym (bad_answer version bytes n h) ∙ e
one version bytes wanted (Err (TooMany n)) e h = sym (many_answer version bytes n h) ∙ e
one version bytes wanted (Err (NoEnd n)) e h = sym (missing_answer version bytes n h) ∙ e
one version bytes wanted (Err Memory) e h = tt

-- what is answered of a schedule is its lines, unless memory ran out
pub accepted : (version : Version) (bytes : Listed ℕ) (result : Result (Listed Line) SchedFault)
    → TellsSchedule version bytes result → (lines : Listed Line) → IsScheduleOf version bytes lines
    → AnswersWith (Ok lines) result
accepted version bytes result h lines s =
    one version bytes (Ok lines) result (schedule_answer version bytes lines s) h

-- what is answered of other bytes is their fault, unless memory ran out
pub refused : (version : Version) (bytes : Listed ℕ) (result : Result (Listed Line) SchedFault)
    → TellsSchedule version bytes result → (fault : SchedFault) → IsFaultOf version bytes fault
    → AnswersWith (Err fault) result
refused version bytes result h fault f =
    one version bytes (Err fault) result (fault_answer version bytes fault f) h
