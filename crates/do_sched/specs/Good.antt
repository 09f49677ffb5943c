-- The lines that may stand in a schedule.
use Rattle.std.specs.Prelude.{ℤ, ◌≡◌, ℕ, ◌<◌, ◌≤◌, ◌^◌, List as Listed, length, IsTrue}
use Rattle.std.specs.{List.AllByRecursion, Int.Signed.mag}
use Rattle.do_base.specs.declared.values.value.Value.{Value, TheVariants.{Nil, Num, Text}}
use Rattle.do_grammar.specs.{Grammar.IsBytes, Names.{is_selector, colons}}
use Rattle.do_sched.specs.declared.line.Line.{Line, TheVariants.{Start, Run, Take, Close, Lose}}
use Rattle.do_sched.specs.declared.{line.Line.TheVariants.{Timeout, Check}, version.Version.Version}
use Rattle.do_sched.specs.declared.version.Version.TheVariants.{Second}
use Rattle.do_sched.specs.Version.{longest, has_timeouts}

-- a node's number
abbrev pub IsPort : ℕ → Type 0
IsPort port = (1 ≤ port) × (port ≤ 65535)

-- nil, a number of 64 bits, or a text of at most so many bytes
pub data IsPlain (limit : ℕ) (v : Value) : Type 0 where
  nil : v ≡ Nil → IsPlain limit v
  number : (n : ℤ) → v ≡ Num n → mag n < 2 ^ 63 → IsPlain limit v
  text : (bytes : Listed ℕ) → v ≡ Text bytes → length bytes ≤ limit → IsBytes bytes
      → IsPlain limit v

-- a selector with a plain value for each of its colons
pub record IsStart (version : Version) (node : ℕ) (selector : Listed ℕ)
    (values : Listed Value) : Type 0 where
  pub at_port : IsPort node
  pub selects : IsTrue (is_selector selector)
  pub enough : length values ≡ colons selector
  pub plain : AllByRecursion (IsPlain (longest version)) values

-- a line that may stand in a schedule of a version: its numbers are within their bounds
abbrev pub IsLineOf : Version → Line → Type 0
IsLineOf version (Start node selector values) = IsStart version node selector values
IsLineOf version (Run node count) = IsPort node × (1 ≤ count) × (count ≤ 1000)
IsLineOf version (Take node from) = IsPort node × IsPort from
IsLineOf version (Close node peer) = IsPort node × IsPort peer
IsLineOf version (Lose from to after) = IsPort from × IsPort to × (after < 2 ^ 64)
IsLineOf version (Timeout node) = IsTrue (has_timeouts version) × IsPort node
IsLineOf version Check = Unit {0}

-- a line that may stand in a schedule of the second version, which is the one that is read
abbrev pub IsLine : Line → Type 0
IsLine = IsLineOf Second
