-- Behaviours that count.
use Rattle.std.specs.{Prelude.{List, ◌≡◌}, List.AllByRecursion}
use Rattle.do_script.specs.Listing.{Listing}
use Rattle.whole_runs.specs.declared.counting.Counting.{Counting}

-- all are of one program
abbrev pub AreOf : List (List Listing) → List Counting → Type 0
AreOf program makers = AllByRecursion (λ m. m.program ≡ program) makers
