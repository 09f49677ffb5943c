-- Records that are read one behind another.
use Rattle.std.specs.Prelude.{◌≡◌, ◌++◌, ◌∷◌, ℕ, List, [], Ok}
use Rattle.do_machine.specs.declared.state.Seat.{Seat}
use Rattle.do_record.specs.declared.parts.Record.{Record}
use Rattle.do_woven.specs.Judging.{judged}

-- with the earlier ones, the bytes of these files are these records of a world's nodes
abbrev pub AreRead : List Seat → List Record → List (List ℕ) → List Record → Type 0
AreRead seats earlier [] records = records ≡ earlier
AreRead seats earlier (bytes ∷ files) records =
    (r : Record) × (judged seats earlier bytes ≡ Ok r)
    × AreRead seats (earlier ++ r ∷ []) files records
