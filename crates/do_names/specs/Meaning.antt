-- The port that a name has after the calls made so far, told by the calls alone.
use Rattle.std.specs.Prelude.{ℕ, nat_lt, List, [], ◌∷◌, length, Option, None, if◌then◌else◌}
use Rattle.std.specs.Str.{bytes_eq}
use Rattle.do_table.specs.Entries.{given}
use Rattle.do_names.specs.{History.after, declared.calls.Call.Call}
use Rattle.do_names.specs.declared.calls.Call.TheVariants.{Register, Lookup, Unregister}

-- A name has the port of the first `Register` that was accepted since its last `Unregister`; one is
-- accepted that finds fewer than 512 names.
abbrev pub told : List Call → List ℕ → Option ℕ
told [] name = None
told (Register other port ∷ earlier) name =
    if bytes_eq name other
    then given (told earlier name) port (nat_lt (length (after earlier)) 512)
    else told earlier name
told (Lookup other ∷ earlier) name = told earlier name
told (Unregister other ∷ earlier) name =
    if bytes_eq name other then None else told earlier name
