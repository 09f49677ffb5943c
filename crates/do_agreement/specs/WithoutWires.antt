-- A text without the lines that say what was sent.
use Rattle.std.specs.Prelude.{Bool, List, codes, filter, not, ℕ, ◌&&◌, ◌==◌}
use Rattle.std.specs.List.{flat_map, starts_with}
use Rattle.do_grammar.specs.Lines.{Line, cut, line_bytes}

-- a line that has its line feed says what was sent
abbrev pub is_wire : Line → Bool
is_wire l = l.fed && starts_with (λ (a b : ℕ). a == b) l.text (codes "wire ")

-- a line says nothing of it, or has no line feed
abbrev pub is_local : Line → Bool
is_local l = not (is_wire l)

-- a text but for the whole lines that begin with `wire `: an unfinished last line stays
abbrev pub without_wires : List ℕ → List ℕ
without_wires text = flat_map line_bytes (filter is_local (cut text))
