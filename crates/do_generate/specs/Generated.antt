-- The lines that a number generates.
use Rattle.std.specs.Prelude.{ℕ, zero, suc, ◌+◌, ◌*◌, ◌/◌, ◌%◌, ◌^◌, ◌==◌, nat_lt, List, [], ◌∷◌}
use Rattle.std.specs.Prelude.{pos, codes, if◌then◌else◌}
use Rattle.do_base.specs.declared.values.value.Value.TheVariants.{Num}
use Rattle.do_sched.specs.declared.line.Line.{Line, TheVariants.{Start, Run, Take, Check}}

-- the number after this one
abbrev pub next : ℕ → ℕ
next x = (x * 6364136223846793005 + 1442695040888963407) % 2 ^ 64

-- one of the four nodes of the mesh, by the number behind so many bits
abbrev pub node_by : ℕ → ℕ → ℕ
node_by x bits = 7001 + x / 2 ^ bits % 4

-- which kind of line it is: a start for 0, a run for 1 to 5, else a take
abbrev pub kind_of : ℕ → ℕ
kind_of x = x / 2 ^ 33 % 10

-- the line of a number
abbrev pub line_of : ℕ → Line
line_of x =
    if kind_of x == 0
    then Start (node_by x 40) (codes "go:") (Num (pos (node_by x 44)) ∷ [])
    else if nat_lt (kind_of x) 6 then Run (node_by x 40) (1 + x / 2 ^ 48 % 8)
    else Take (node_by x 40) (node_by x 44)

-- so many lines behind a number, and a check
abbrev pub generated : ℕ → ℕ → List Line
generated zero x = Check ∷ []
generated (suc count) x = line_of (next x) ∷ generated count (next x)
