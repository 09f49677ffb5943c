-- What the lines of a record are.
use Rattle.do_grammar.specs.Lines as text
use Rattle.do_sched.specs.declared.line.Line.TheVariants as lines
use Rattle.do_record.specs.declared.parts.RecordLine.TheVariants as inputs
use Rattle.std.specs.Prelude.{ℕ, ◌==◌, List as Listed, Option, Some, None, if◌then◌else◌, codes}
use Rattle.std.specs.Str.{bytes_eq}
use Rattle.do_grammar.specs.Words.{◌>>?◌, word}
use Rattle.do_sched.specs.{Reading.{line_at, pair_at, port_at}, declared.line.Line.Line}
use Rattle.do_sched.specs.declared.version.Version.TheVariants.{Second}
use Rattle.do_record.specs.{Shown.is_shown, declared.line.RecordText.RecordText}
use Rattle.do_record.specs.declared.line.RecordText.TheVariants.{Bad, End, Input, Shown}
use Rattle.do_record.specs.declared.parts.RecordLine.{RecordLine}

-- the port behind a version
abbrev pub versioned_port : Listed ℕ × Listed ℕ → Option ℕ
versioned_port w = if bytes_eq w.0 (codes "1") then port_at w.1 else None

-- the port behind two words
abbrev pub header_port : Listed ℕ × Listed ℕ → Option ℕ
header_port w = if bytes_eq w.0 (codes "record") then (word 32 w.1 >>? versioned_port) else None

-- the port that the first line of a record has
abbrev pub first_port : text.Line → Option ℕ
first_port t = if t.fed then (word 32 t.text >>? header_port) else None

-- an input, if its node is the record's
abbrev pub own_input : ℕ → ℕ → RecordLine → Option RecordLine
own_input port node input = if node == port then Some input else None

-- a line of a schedule as an input of a node
abbrev pub as_input : ℕ → Line → Option RecordLine
as_input port (lines.Start node selector values) =
    own_input port node (inputs.Start selector values)
as_input port (lines.Run node count) = if count == 1 then own_input port node inputs.Run else None
as_input port (lines.Take node from) = own_input port node (inputs.Take from)
as_input port (lines.Close node peer) = own_input port node (inputs.Close peer)
as_input port _ = None

-- an end without notice
abbrev pub ended_at : ℕ → Listed ℕ → Option RecordLine
ended_at port bytes = pair_at 1 65535 bytes >>? λ x. own_input port x.0 (inputs.Ended x.1)

-- an input by its first word
abbrev pub input_by : ℕ → Listed ℕ → Listed ℕ × Listed ℕ → Option RecordLine
input_by port text w =
    if bytes_eq w.0 (codes "ended") then ended_at port w.1
    else (line_at Second text >>? as_input port)

-- the input that a text spells, if it spells one
abbrev pub input_at : ℕ → Listed ℕ → Option RecordLine
input_at port text = word 32 text >>? input_by port text

-- an input, or no line
abbrev pub input_or_bad : Option RecordLine → RecordText
input_or_bad None = Bad
input_or_bad (Some input) = Input input

-- a line behind an angle bracket and a space
abbrev pub marked_text : ℕ → Listed ℕ → RecordText
marked_text port text =
    if bytes_eq text (codes "end") then End else input_or_bad (input_at port text)

-- a line that shows something of a node, or none
abbrev pub shown_or_bad : ℕ → Listed ℕ → RecordText
shown_or_bad port text = if is_shown port text then Shown else Bad

-- by its first word, a line is marked or shows something
abbrev pub text_by : ℕ → Listed ℕ → Option (Listed ℕ × Listed ℕ) → RecordText
text_by port text None = Bad
text_by port text (Some w) =
    if bytes_eq w.0 (codes ">") then marked_text port w.1
    else shown_or_bad port text

-- what a line is
abbrev pub text_of : ℕ → text.Line → RecordText
text_of port t = if t.fed then text_by port t.text (word 32 t.text) else Bad
