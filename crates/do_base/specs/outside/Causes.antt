-- Counts of calls and of faults, which end at the largest number of 64 bits.
use Rattle.std.specs.Prelude.{ℕ, ◌+◌, ◌-◌, ◌^◌, ◌≤◌, min}

-- a count after one more
abbrev pub next_count : ℕ → ℕ
next_count count = min (count + 1) (2 ^ 64 - 1)

-- the count rose by one at least, or stands at its end
abbrev pub Rose : ℕ → ℕ → Type 0
Rose before now = next_count before ≤ now
