-- What the calls made so far leave of a core.
use Rattle.std.specs.Prelude.{List, [], ◌∷◌, Option, Some, None}

-- what was done, or the core as it was
abbrev pub left : {Core Answer : Type 0} → Core → Option (Core × Answer) → Core
left core None = core
left core (Some done) = done.0

-- the core after these calls, of which the first made stands last, where it began as this one
abbrev pub after_calls : {Core Call Answer : Type 0} → Core
    → (Core → Call → Option (Core × Answer)) → List Call → Core
after_calls start does [] = start
after_calls start does (call ∷ earlier) =
    left (after_calls start does earlier) (does (after_calls start does earlier) call)
