-- A schedule of the first version, written anew, is one of the second version.
use Rattle.std.proofs.Common.{◌≡◌, ℕ, List as Listed, [], ◌∷◌, ◌++◌, drop, Result, Ok, Err, ap, ◌∙◌}
use Rattle.std.{proofs.Common.arith, specs.List.AllByRecursion}
use Rattle.do_base.specs.declared.values.value.Value.{Value}
use Rattle.do_sched.specs.declared.line.Line.{Line, TheVariants.{Start, Run, Take, Close, Lose}}
use Rattle.do_sched.specs.declared.line.Line.TheVariants.{Timeout, Check}
use Rattle.do_sched.specs.declared.fault.SchedFault.{SchedFault}
use Rattle.do_sched.specs.declared.fault.SchedFault.TheVariants.{BadLine, TooMany, NoEnd, Memory}
use Rattle.do_sched.specs.{declared.version.Version.TheVariants.{First, Second}, Version.header}
use Rattle.do_sched.specs.{Version.longest, Spelling.spelling, Good.{IsPlain, nil, number, text}}
use Rattle.do_sched.specs.{Good.IsLineOf, Schedule.{IsScheduleOf, IsFaultOf}, Answers.TellsSchedule}
use Rattle.do_sched.{specs.Answers.{AnswersWith, Upgrades}, proofs.AnswerUnique.{accepted, refused}}

-- a value that is plain by the shorter limit is plain by the longer
plain_longer : (v : Value) → IsPlain (longest First) v → IsPlain (longest Second) v
plain_longer v (nil same) = nil same
plain_longer v (number n same fits) = number n same fits
plain_longer v (text bytes same within small) = text bytes same (omega arith) small

-- so are values
all_longer : (vs : Listed Value) → AllByRecursion (IsPlain (longest First)) vs
    → AllByRecursion (IsPlain (longest Second)) vs
all_longer [] h = tt
all_longer (v ∷ vs) h = (plain_longer v h.0, all_longer vs h.1)

-- a line of the first version is one of the second
line_upgraded : (l : Line) → IsLineOf First l → IsLineOf Second l
line_upgraded (Start node selector values) h = record {
  at_port = h.at_port;
  selects = h.selects;
  enough = h.enough;
  plain = all_longer values h.plain;
}
line_upgraded (Run node count) h = h
line_upgraded (Take node from) h = h
line_upgraded (Close node peer) h = h
line_upgraded (Lose from to after) h = h
line_upgraded (Timeout node) h = absurd cc
line_upgraded Check h = h

-- so are lines
lines_upgraded : (ls : Listed Line) → AllByRecursion (IsLineOf First) ls
    → AllByRecursion (IsLineOf Second) ls
lines_upgraded [] h = tt
lines_upgraded (l ∷ ls) h = (line_upgraded l h.0, lines_upgraded ls h.1)

-- with the other first line the bytes spell the same lines in the other version
other_header : (bytes : Listed ℕ) (lines : Listed Line) → IsScheduleOf First bytes lines
    → header Second ++ drop 10 bytes ≡ spelling Second lines
other_header bytes lines s = ap (λ (w : Listed ℕ). header Second ++ drop 10 w) s.spelled

-- the text with the other first line upgrades the bytes
pub upgrades : (bytes new : Listed ℕ) (lines : Listed Line) → IsScheduleOf First bytes lines
    → new ≡ header Second ++ drop 10 bytes → Upgrades bytes new
upgrades bytes new lines s e = record {
  lines = lines;
  first = s;
  second = record {
    spelled = e ∙ other_header bytes lines s;
    good = lines_upgraded lines s.good;
    few = s.few;
  };
}

-- what is no answer to the lines is none to their text
pub fault_not_accepted : (bytes : Listed ℕ) (fault : SchedFault)
    → TellsSchedule First bytes (Err fault) → (lines : Listed Line) → IsScheduleOf First bytes lines
    → AnswersWith {A = Listed ℕ} (Ok (spelling Second lines)) (Err fault)
fault_not_accepted bytes (BadLine n) h lines s =
    let e = accepted First bytes (Err (BadLine n)) h lines s in absurd cc
fault_not_accepted bytes (TooMany n) h lines s =
    let e = accepted First bytes (Err (TooMany n)) h lines s in absurd cc
fault_not_accepted bytes (NoEnd n) h lines s =
    let e = accepted First bytes (Err (NoEnd n)) h lines s in absurd cc
fault_not_accepted bytes Memory h lines s = tt

-- bytes with a fault are no schedule
pub fault_not_upgraded : (bytes new : Listed ℕ) (lines : Listed Line)
    → IsScheduleOf First bytes lines → (fault : SchedFault) → IsFaultOf First bytes fault
    → AnswersWith {A = Listed ℕ} (Err fault) (Ok new)
fault_not_upgraded bytes new lines s fault f =
    let e = refused First bytes (Ok lines) s fault f in absurd cc

-- a fault as an answer
abbrev err : SchedFault → Result (Listed ℕ) SchedFault
err fault = Err fault

-- their fault is answered
pub upgrade_refused : (bytes : Listed ℕ) (told : SchedFault) → TellsSchedule First bytes (Err told)
    → (fault : SchedFault) → IsFaultOf First bytes fault
    → AnswersWith {A = Listed ℕ} (Err fault) (Err told)
upgrade_refused bytes (BadLine n) h fault f =
    let e = refused First bytes (Err (BadLine n)) h fault f in
    let same : BadLine n ≡ fault = cc in
    ap err same
upgrade_refused bytes (TooMany n) h fault f =
    let e = refused First bytes (Err (TooMany n)) h fault f in
    let same : TooMany n ≡ fault = cc in
    ap err same
upgrade_refused bytes (NoEnd n) h fault f =
    let e = refused First bytes (Err (NoEnd n)) h fault f in
    let same : NoEnd n ≡ fault = cc in
    ap err same
upgrade_refused bytes Memory h fault f = tt
