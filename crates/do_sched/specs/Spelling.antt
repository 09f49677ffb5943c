-- The lines of a schedule as bytes, and what they count.
use Rattle.std.specs.{Prelude.{ℕ, List as Listed, [], ◌∷◌, ◌++◌, sum_by, codes}, List.flat_map}
use Rattle.std.specs.Fmt.{decimal}
use Rattle.do_base.specs.declared.values.value.Value.{Value}
use Rattle.do_sched.specs.declared.line.Line.{Line, TheVariants.{Start, Run, Take, Close, Lose}}
use Rattle.do_sched.specs.declared.{line.Line.TheVariants.{Timeout, Check}, version.Version.Version}
use Rattle.do_sched.specs.{Value.value_text, Version.header}

-- a space, and a value
abbrev pub spaced_value : Value → Listed ℕ
spaced_value v = 32 ∷ value_text v

-- two numbers with a space between
abbrev pub number_pair : ℕ → ℕ → Listed ℕ
number_pair first second = decimal first ++ 32 ∷ decimal second

-- a line without its line feed
abbrev pub line_spelling : Line → Listed ℕ
line_spelling (Start node selector values) =
    codes "start " ++ decimal node ++ 32 ∷ (selector ++ flat_map spaced_value values)
line_spelling (Run node count) = codes "run " ++ number_pair node count
line_spelling (Take node from) = codes "take " ++ number_pair node from
line_spelling (Close node peer) = codes "close " ++ number_pair node peer
line_spelling (Lose from to after) =
    codes "lose " ++ decimal from ++ 32 ∷ number_pair to after
line_spelling (Timeout node) = codes "timeout " ++ decimal node
line_spelling Check = codes "check"

-- the last line of a schedule
abbrev pub footer : Listed ℕ
footer = codes "end"

-- a text with its line feed
abbrev pub fed : Listed ℕ → Listed ℕ
fed text = text ++ 10 ∷ []

-- a whole schedule
abbrev pub spelling : Version → Listed Line → Listed ℕ
spelling version lines =
    fed (header version) ++ flat_map (λ l. fed (line_spelling l)) lines ++ fed footer

-- the single steps of a line
abbrev pub steps : Line → ℕ
steps (Run node count) = count
steps _ = 1

-- the single steps of all lines together
abbrev pub steps_of : Listed Line → ℕ
steps_of lines = sum_by steps lines
