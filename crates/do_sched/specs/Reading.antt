-- The line that a text spells, as it is read word by word.
use Rattle.do_grammar.specs.Lines as text
use Rattle.std.specs.Prelude.{Bool, false, ◌&&◌, ℕ, zero, suc, ◌==◌, List as Listed, [], ◌∷◌}
use Rattle.std.specs.{Prelude.{Option, Some, None, if◌then◌else◌, codes}, Str.bytes_eq}
use Rattle.do_base.specs.declared.values.value.Value.{Value, TheVariants.{Nil, Num, Text}}
use Rattle.do_grammar.specs.{Dec.{dec_in, int_in}, Names.{is_selector, colons}, Quoted.quoted_at}
use Rattle.do_grammar.specs.Words.{◌>>?◌, word, part}
use Rattle.do_sched.specs.declared.line.Line.{Line, TheVariants.{Start, Run, Take, Close, Lose}}
use Rattle.do_sched.specs.declared.{line.Line.TheVariants.{Timeout, Check}, version.Version.Version}
use Rattle.do_sched.specs.Version.{longest, has_timeouts}

-- a node's number
abbrev pub port_at : Listed ℕ → Option ℕ
port_at bytes = dec_in 1 65535 bytes

-- a node's number and one more between two bounds
abbrev pub pair_at : ℕ → ℕ → Listed ℕ → Option (ℕ × ℕ)
pair_at low high bytes =
    word 32 bytes >>? λ w. port_at w.0 >>? λ p. dec_in low high w.1 >>? λ c. Some (p, c)

-- `nil` or a number
abbrev pub word_value : Listed ℕ → Option Value
word_value w = if bytes_eq w (codes "nil") then Some Nil else (int_in w >>? λ n. Some (Num n))

-- whether a quote stands first
abbrev pub is_quote_first : Listed ℕ → Bool
is_quote_first [] = false
is_quote_first (b ∷ bytes) = b == 34

-- the plain value that begins the bytes, a text of at most so many bytes, and what stands behind it
abbrev pub plain_at : ℕ → Listed ℕ → Option (Value × Listed ℕ)
plain_at limit bytes =
    if is_quote_first bytes then (quoted_at limit bytes >>? λ x. Some (Text x.0, x.1))
    else (word_value (part 32 bytes).0 >>? λ v. Some (v, (part 32 bytes).1))

-- so many plain values, a space before each
abbrev pub values_at : ℕ → ℕ → Listed ℕ → Option (Listed Value)
values_at limit zero [] = Some []
values_at limit zero (b ∷ bytes) = None
values_at limit (suc k) [] = None
values_at limit (suc k) (b ∷ bytes) =
    if b == 32 then (plain_at limit bytes >>? λ x. values_at limit k x.1 >>? λ vs. Some (x.0 ∷ vs))
    else None

-- a selector, and a value for each of its colons
abbrev pub called_at : ℕ → ℕ → Listed ℕ × Listed ℕ → Option Line
called_at limit node w =
    if is_selector w.0 then (values_at limit (colons w.0) w.1 >>? λ vs. Some (Start node w.0 vs))
    else None

-- a node, a selector and values
abbrev pub start_line_at : ℕ → Listed ℕ → Option Line
start_line_at limit bytes =
    word 32 bytes >>? λ w. port_at w.0 >>? λ p. called_at limit p (part 32 w.1)

-- a node and a count of steps
abbrev pub run_line_at : Listed ℕ → Option Line
run_line_at bytes = pair_at 1 1000 bytes >>? λ x. Some (Run x.0 x.1)

-- a node and the one that it takes from
abbrev pub take_line_at : Listed ℕ → Option Line
take_line_at bytes = pair_at 1 65535 bytes >>? λ x. Some (Take x.0 x.1)

-- a node and the peer towards which its end closes
abbrev pub close_line_at : Listed ℕ → Option Line
close_line_at bytes = pair_at 1 65535 bytes >>? λ x. Some (Close x.0 x.1)

-- the sender, the receiver, and how many items are not lost
abbrev pub lose_line_at : Listed ℕ → Option Line
lose_line_at bytes =
    word 32 bytes >>? λ w. port_at w.0 >>? λ p. pair_at 0 18446744073709551615 w.1 >>? λ x.
    Some (Lose p x.0 x.1)

-- the node that waits no longer, where the version has time-outs
abbrev pub timeout_line_at : Version → Listed ℕ → Option Line
timeout_line_at version bytes =
    if has_timeouts version then (port_at bytes >>? λ p. Some (Timeout p)) else None

-- what stands behind a first word where it is this one, else the other
abbrev pub on_word : Listed ℕ → Listed ℕ → Option Line → Option Line → Option Line
on_word wanted first line other = if bytes_eq first wanted then line else other

-- by the first word, what stands behind it
abbrev pub form_at : Version → Listed ℕ × Listed ℕ → Option Line
form_at version w =
    on_word (codes "run") w.0 (run_line_at w.1)
    (on_word (codes "take") w.0 (take_line_at w.1)
    (on_word (codes "close") w.0 (close_line_at w.1)
    (on_word (codes "lose") w.0 (lose_line_at w.1)
    (on_word (codes "timeout") w.0 (timeout_line_at version w.1)
    (on_word (codes "start") w.0 (start_line_at (longest version) w.1) None)))))

-- the line that a text spells, if it spells one
unfoldable pub line_at : Version → Listed ℕ → Option Line
line_at version text =
    if bytes_eq text (codes "check") then Some Check else (word 32 text >>? form_at version)

-- whether a line of text is this text with its line feed
abbrev pub is_whole : Listed ℕ → text.Line → Bool
is_whole wanted t = t.fed && bytes_eq t.text wanted

-- the line of a schedule that a line of text is
abbrev pub line_in : Version → text.Line → Option Line
line_in version t = if t.fed then line_at version t.text else None
