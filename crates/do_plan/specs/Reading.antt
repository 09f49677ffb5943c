-- What it is to read the lines of a text, and what an answer says of the bytes.
use Rattle.do_grammar.specs.Lines as text
use Rattle.std.specs.Prelude.{◌≡◌, ℕ, false, List as Listed, Option, Some, None, Result, Ok, Err}
use Rattle.std.specs.{Prelude.if◌then◌else◌, Str.bytes_eq}
use Rattle.do_grammar.specs.Words.{Without}
use Rattle.do_sched.specs.{Spelling.footer, declared.fault.SchedFault.SchedFault}
use Rattle.do_sched.specs.declared.fault.SchedFault.TheVariants.{Memory}
use Rattle.do_plan.specs.Form.{Form, IsText, IsFault}

-- a function reads the lines of a form: a line that it reads is good and spelled so, each good line
-- is read from its spelling, and a spelling has no line feed and is not `end`
pub record Reads {A : Type 0} (form : Form A) (line_at : Listed ℕ → Option A) : Type 0 where
  pub sound : (t : Listed ℕ) (l : A) → line_at t ≡ Some l → (t ≡ form.spelling l) × form.IsGood l
  pub reads_spelling : (l : A) → form.IsGood l → line_at (form.spelling l) ≡ Some l
  pub no_feed : (l : A) → form.IsGood l → Without 10 (form.spelling l)
  pub no_end : (l : A) → form.IsGood l → bytes_eq (form.spelling l) footer ≡ false
  pub header_free : Without 10 form.header

-- the lines are those of the bytes, or the fault is theirs; nothing is said where memory ran out
abbrev pub Tells : {A : Type 0} → Form A → Listed ℕ → Result (Listed A) SchedFault → Type 0
Tells form bytes (Ok lines) = IsText form bytes lines
Tells form bytes (Err Memory) = Unit {0}
Tells form bytes (Err fault) = IsFault form bytes fault

-- the line that a line of text is
abbrev pub line_in : {A : Type 0} → (Listed ℕ → Option A) → text.Line → Option A
line_in line_at t = if t.fed then line_at t.text else None

-- what stands behind a first word where it is this one, else the other
abbrev pub on_word : {A : Type 0} → Listed ℕ → Listed ℕ → Option A → Option A → Option A
on_word wanted first line other = if bytes_eq first wanted then line else other
