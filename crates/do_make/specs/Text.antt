-- A summary as a text.
use Rattle.std.specs.Prelude.{List, [], codes, decimal, ℕ, ◌++◌, ◌∷◌}
use Rattle.do_make.specs.declared.counts.Summary.{Summary}

-- the line of a number, behind its name
abbrev pub counted : List ℕ → ℕ → List ℕ
counted name n = name ++ 32 ∷ (decimal n ++ 10 ∷ [])

-- the lines of what was done and shown
unfoldable pub done_text : Summary → List ℕ
done_text s = counted (codes "lines") s.lines ++ counted (codes "skips") s.skips
    ++ counted (codes "says") s.says ++ counted (codes "frees") s.frees

-- the lines of what the last check lists, and of what was sent
unfoldable pub left_text : Summary → List ℕ
left_text s = counted (codes "objects") s.objects ++ counted (codes "entries") s.entries
    ++ counted (codes "frames") s.frames ++ counted (codes "bytes") s.bytes

-- a first line, a line for each number, and a last line
abbrev pub summary_text : Summary → List ℕ
summary_text s = codes "make 1\n" ++ done_text s ++ left_text s ++ codes "end\n"
