-- The calls of a core, and what each does.
use Rattle.std.specs.Prelude.{ℕ, Bool, Option, Some, None, List as Listed, if◌then◌else◌, codes}
use Rattle.std.specs.{Prelude.IsTrue, Map.keys_of, Option.option_map, Str.bytes_eq}
use Rattle.do_base.specs.{values.Kinds.text, declared.values.value.Value.Value}
use Rattle.do_base.specs.declared.values.value.Value.TheVariants.{Nil, Num}
use Rattle.do_grammar.specs.Words.{◌>>?◌}
use Rattle.do_behave.specs.{Numbers.truth, Steps.local, declared.invocation.Invocation.Invocation}
use Rattle.do_table.specs.Entries.{value_of}
use Rattle.do_services.specs.Core.{Entry, is_service, row, service_in, texts_value, with_service}
use Rattle.do_services.specs.{Core.without, declared.calls.Call.Call}
use Rattle.do_services.specs.declared.calls.Call.TheVariants.{Add, Remove, Items, Named}
use Rattle.do_services.specs.declared.service.Service.{Service}

-- a service that is added is one
abbrev pub IsCall : Call → Type 0
IsCall (Add service) = IsTrue (is_service service)
IsCall _ = Unit {0}

-- what was done, with its answer as a number
abbrev pub as_number : Listed Entry × Bool → Listed Entry × Value
as_number done = (done.0, Num (truth done.1))

-- a service as a value, or nil for none
abbrev pub row_or_nil : Option Service → Value
row_or_nil None = Nil
row_or_nil (Some s) = row s

-- what a call leaves and answers; none where there is no room
abbrev pub does : Listed Entry → Call → Option (Listed Entry × Value)
does es (Add service) = option_map as_number (with_service es service)
does es (Remove item) = Some (as_number (without es item))
does es Items = Some (es, texts_value (keys_of es))
does es (Named item) = Some (es, row_or_nil (value_of es item))

-- the call that a selector and the arguments make, of those that only answer
abbrev pub call_in : Listed ℕ → Invocation → Option Call
call_in selector inv =
    if bytes_eq selector (codes "addService:")
    then (local inv 0 >>? service_in >>? λ s. Some (Add s)) else
    if bytes_eq selector (codes "removeService:")
    then (local inv 0 >>? text >>? λ item. Some (Remove item)) else
    if bytes_eq selector (codes "services") then Some Items else
    if bytes_eq selector (codes "serviceNamed:")
    then (local inv 0 >>? text >>? λ item. Some (Named item)) else None
