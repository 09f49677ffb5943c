-- The calls of a core, and what each does.
use Rattle.std.specs.Prelude.{ℕ, pos, Bool, Option, Some, None, List, if◌then◌else◌, codes, IsTrue}
use Rattle.std.specs.{Option.option_map, Str.bytes_eq}
use Rattle.do_base.specs.declared.values.value.Value.{Value, TheVariants.Num}
use Rattle.do_grammar.specs.Words.{◌>>?◌}
use Rattle.do_behave.specs.{Numbers.truth, Steps.local, declared.invocation.Invocation.Invocation}
use Rattle.do_table.specs.Entries.{value_of}
use Rattle.do_native_acts.specs.Ports.{port_in}
use Rattle.do_names.specs.Core.{is_entry, name_in, registered, unregistered, Entry}
use Rattle.do_names.specs.declared.calls.Call.{Call, TheVariants.{Register, Lookup, Unregister}}

-- a name that is registered is not empty, and its port is not 0
abbrev pub IsCall : Call → Type 0
IsCall (Register name port) = IsTrue (is_entry (name, port))
IsCall _ = Unit {0}

-- a port, or 0 for none
abbrev pub port_or_none : Option ℕ → ℕ
port_or_none None = 0
port_or_none (Some port) = port

-- what was done, with its answer as a number
abbrev pub as_number : List Entry × Bool → List Entry × Value
as_number done = (done.0, Num (truth done.1))

-- what a call leaves and answers; none where there is no room
abbrev pub does : List Entry → Call → Option (List Entry × Value)
does es (Register name port) = option_map as_number (registered es name port)
does es (Lookup name) = Some (es, Num (pos (port_or_none (value_of es name))))
does es (Unregister name) = Some (as_number (unregistered es name))

-- the call that a selector makes with a name and perhaps a port
abbrev pub call_with : List ℕ → Option ℕ → List ℕ → Option Call
call_with selector port name =
    if bytes_eq selector (codes "register:port:") then option_map (Register name) port else
    if bytes_eq selector (codes "lookup:") then Some (Lookup name) else
    if bytes_eq selector (codes "unregister:") then Some (Unregister name) else None

-- the call that a selector and the arguments make
abbrev pub call_in : List ℕ → Invocation → Option Call
call_in selector inv =
    local inv 0 >>? name_in >>? call_with selector (local inv 1 >>? port_in)
