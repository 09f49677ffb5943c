-- The service of an item after the calls made so far, told by the calls alone.
use Rattle.std.specs.Prelude.{ℕ, nat_lt, List, [], ◌∷◌, length, Option, None, if◌then◌else◌}
use Rattle.std.specs.Str.{bytes_eq}
use Rattle.do_table.specs.Entries.{given}
use Rattle.do_services.specs.{History.after, declared.calls.Call.Call}
use Rattle.do_services.specs.declared.calls.Call.TheVariants.{Add, Remove, Items, Named}
use Rattle.do_services.specs.declared.service.Service.{Service}

-- An item has the service of the first `Add` that was accepted since its last `Remove`; one is
-- accepted that finds fewer than 256 services.
abbrev pub told : List Call → List ℕ → Option Service
told [] item = None
told (Add service ∷ earlier) item =
    if bytes_eq item service.item
    then given (told earlier item) service (nat_lt (length (after earlier)) 256)
    else told earlier item
told (Remove other ∷ earlier) item = if bytes_eq item other then None else told earlier item
told (Items ∷ earlier) item = told earlier item
told (Named other ∷ earlier) item = told earlier item
