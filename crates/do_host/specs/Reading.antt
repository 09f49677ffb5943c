-- How reading a file within a limit may end.
use Rattle.std.specs.Prelude.{◌≡◌, ℕ, ◌+◌, ◌<◌, ◌≤◌, List, length, Result, Ok, Err}
use Rattle.do_base.specs.declared.outside.shelf.FetchFail.{FetchFail}
use Rattle.do_base.specs.declared.outside.shelf.FetchFail.TheVariants.{Failed, Long, Memory}

-- a text keeps the limit, and a file that is too long carries it and one more
abbrev pub KeepsLimit : ℕ → Result (List ℕ) FetchFail → Type 0
KeepsLimit limit (Ok text) = length text ≤ limit
KeepsLimit limit (Err (Long read most)) = (read ≡ limit + 1) × (most ≡ limit)
KeepsLimit limit (Err Failed) = Unit {0}
KeepsLimit limit (Err Memory) = Unit {0}

-- a text is all that the file had left, and a file that is too long had more than the limit
abbrev pub TellsOf : ℕ → List ℕ → Result (List ℕ) FetchFail → Type 0
TellsOf limit known (Ok text) = text ≡ known
TellsOf limit known (Err (Long read most)) = limit < length known
TellsOf limit known (Err Failed) = Unit {0}
TellsOf limit known (Err Memory) = Unit {0}
