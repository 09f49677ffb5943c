-- The lines of starts: how they are spelled, which are good, and which one a text spells.
use Rattle.std.specs.Prelude.{◌≡◌, ℕ, ◌<◌, ◌^◌, List as Listed, ◌++◌, length, IsTrue, codes, Option}
use Rattle.std.specs.{Prelude.{Some, None, if◌then◌else◌}, List.{flat_map, AllByRecursion}}
use Rattle.std.specs.{Fmt.decimal, Str.bytes_eq}
use Rattle.do_base.specs.{declared.values.value.Value.Value, values.Texts.longest_text}
use Rattle.do_grammar.specs.{Dec.dec_in, Names.{is_selector, colons}, Words.{◌>>?◌, word, part}}
use Rattle.do_sched.specs.{Good.IsPlain, Reading.values_at, Spelling.spaced_value}
use Rattle.do_plan.specs.declared.starts.StartLine.{StartLine, TheVariants.{Start, Serve, Until}}
use Rattle.do_plan.specs.{declared.starts.StartLine.TheVariants.Leave, Form.Form, Reading.on_word}

-- ---- what starts are

-- a line without its line feed
abbrev pub start_spelling : StartLine → Listed ℕ
start_spelling (Start selector values) =
    codes "start " ++ selector ++ flat_map spaced_value values
start_spelling (Serve count) = codes "serve " ++ decimal count
start_spelling (Until count) = codes "until " ++ decimal count
start_spelling Leave = codes "leave"

-- a selector with a plain value for each of its colons
pub record IsSent (selector : Listed ℕ) (values : Listed Value) : Type 0 where
  pub selects : IsTrue (is_selector selector)
  pub enough : length values ≡ colons selector
  pub plain : AllByRecursion (IsPlain longest_text) values

-- a line that may stand in starts
abbrev pub IsStartLine : StartLine → Type 0
IsStartLine (Start selector values) = IsSent selector values
IsStartLine (Serve count) = count < 2 ^ 64
IsStartLine (Until count) = count < 2 ^ 64
IsStartLine Leave = Unit {0}

-- starts: at most 10,000 lines behind `starts 1`
abbrev pub starts_form : Form StartLine
starts_form = record {
  header = codes "starts 1";
  spelling = start_spelling;
  IsGood = IsStartLine;
  least = 0;
  most = 10000;
}

-- ---- which line a text spells

-- a number of 64 bits
abbrev pub count_at : Listed ℕ → Option ℕ
count_at bytes = dec_in 0 18446744073709551615 bytes

-- a selector, and a value for each of its colons
abbrev pub sent_at : Listed ℕ × Listed ℕ → Option StartLine
sent_at w =
    if is_selector w.0
    then (values_at longest_text (colons w.0) w.1 >>? λ vs. Some (Start w.0 vs)) else None

-- by the first word, what stands behind it
abbrev pub start_form_at : Listed ℕ × Listed ℕ → Option StartLine
start_form_at w =
    on_word (codes "serve") w.0 (count_at w.1 >>? λ n. Some (Serve n))
    (on_word (codes "until") w.0 (count_at w.1 >>? λ n. Some (Until n))
    (on_word (codes "start") w.0 (sent_at (part 32 w.1)) None))

-- the line that a text spells, if it spells one
unfoldable pub start_at : Listed ℕ → Option StartLine
start_at text =
    if bytes_eq text (codes "leave") then Some Leave else (word 32 text >>? start_form_at)
