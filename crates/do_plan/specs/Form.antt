-- Texts of lines between a first line and `end`: which bytes are one, and which line of other bytes
-- is at fault.
use Rattle.do_grammar.specs.Lines as text
use Rattle.std.specs.Prelude.{◌≡◌, ◌≢◌, ℕ, ◌+◌, ◌<◌, ◌≤◌, List as Listed, [], ◌∷◌, ◌++◌, length}
use Rattle.std.specs.{Prelude.map, List.{flat_map, AllByRecursion}}
use Rattle.do_grammar.specs.Lines.{cut}
use Rattle.do_sched.specs.{Spelling.{fed, footer}, Schedule.whole}
use Rattle.do_sched.specs.declared.fault.SchedFault.{SchedFault}
use Rattle.do_sched.specs.declared.fault.SchedFault.TheVariants.{BadLine, TooMany, NoEnd, Memory}

-- the first line of a text, how the lines behind it are spelled, which of them are good, and how
-- many there are at least and at most
pub record Form (A : Type 0) : Type 1 where
  pub header : Listed ℕ
  pub spelling : A → Listed ℕ
  pub IsGood : A → Type 0
  pub least : ℕ
  pub most : ℕ

-- these bytes are the text of these lines
pub record IsText {A : Type 0} (form : Form A) (bytes : Listed ℕ) (lines : Listed A)
    : Type 0 where
  pub spelled : bytes ≡ fed form.header ++ flat_map (λ l. fed (form.spelling l)) lines ++ fed footer
  pub good : AllByRecursion form.IsGood lines
  pub enough : form.least ≤ length lines
  pub few : length lines ≤ form.most

-- a text begins with these lines, and what is left of the bytes are these lines of text
pub record Opens {A : Type 0} (form : Form A) (bytes : Listed ℕ) (lines : Listed A)
    (rest : Listed text.Line) : Type 0 where
  pub spelled :
      cut bytes ≡ whole form.header ∷ map (λ l. whole (form.spelling l)) lines ++ rest
  pub good : AllByRecursion form.IsGood lines
  pub few : length lines ≤ form.most

-- a line of text that is neither `end` nor a good line
pub record IsNoLine {A : Type 0} (form : Form A) (t : text.Line) : Type 0 where
  pub no_end : t ≢ whole footer
  pub no_line : (l : A) → form.IsGood l → t ≢ whole (form.spelling l)

-- line n may not stand where it stands: as the first, between the first and `end`, as an `end` that
-- comes too early, or behind `end`
pub data IsBadLine {A : Type 0} (form : Form A) (bytes : Listed ℕ) : ℕ → Type 0 where
  at_first : (t : text.Line) (rest : Listed text.Line) → cut bytes ≡ t ∷ rest
      → t ≢ whole form.header → IsBadLine form bytes 1
  between : (lines : Listed A) (t : text.Line) (rest : Listed text.Line)
      → Opens form bytes lines (t ∷ rest) → IsNoLine form t
      → IsBadLine form bytes (length lines + 2)
  early : (lines : Listed A) (rest : Listed text.Line)
      → Opens form bytes lines (whole footer ∷ rest) → length lines < form.least
      → IsBadLine form bytes (length lines + 2)
  behind : (lines : Listed A) (t : text.Line) (rest : Listed text.Line)
      → Opens form bytes lines (whole footer ∷ t ∷ rest) → form.least ≤ length lines
      → IsBadLine form bytes (length lines + 3)

-- line n is a good one with which the lines are too many
pub data IsTooMany {A : Type 0} (form : Form A) (bytes : Listed ℕ) : ℕ → Type 0 where
  over : (lines : Listed A) (l : A) (rest : Listed text.Line)
      → Opens form bytes lines (whole (form.spelling l) ∷ rest) → form.IsGood l
      → form.most < length lines + 1 → IsTooMany form bytes (length lines + 2)

-- the bytes end behind the first n lines less one, which are good, and without `end`
pub data IsEndMissing {A : Type 0} (form : Form A) (bytes : Listed ℕ) : ℕ → Type 0 where
  at_start : bytes ≡ [] → IsEndMissing form bytes 1
  later : (lines : Listed A) → Opens form bytes lines []
      → IsEndMissing form bytes (length lines + 2)

-- this is what is wrong with the bytes
abbrev pub IsFault : {A : Type 0} → Form A → Listed ℕ → SchedFault → Type 0
IsFault form bytes (BadLine n) = IsBadLine form bytes n
IsFault form bytes (TooMany n) = IsTooMany form bytes n
IsFault form bytes (NoEnd n) = IsEndMissing form bytes n
IsFault form bytes Memory = ⊥
