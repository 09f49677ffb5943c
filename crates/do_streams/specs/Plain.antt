-- Which frames name objects.
use Rattle.std.specs.Prelude.{Bool, ℕ, ◌==◌, ◌||◌}

-- the kinds with a packet: Call, Oneway, Reply and RootAnswer
abbrev pub names_objects : ℕ → Bool
names_objects kind = kind == 1 || kind == 2 || kind == 3 || kind == 6
