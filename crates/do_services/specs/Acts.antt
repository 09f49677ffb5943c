-- The acts of the methods.
use Rattle.std.specs.Prelude.{ℕ, pos, Option, Some, None, List as Listed, [], ◌∷◌, ◌++◌, codes}
use Rattle.std.specs.{Prelude.if◌then◌else◌, Str.bytes_eq}
use Rattle.do_base.specs.{values.Kinds.{is_nil, text}, declared.values.value.Value.Value}
use Rattle.do_base.specs.declared.values.value.Value.TheVariants.{Nil, Num, Text}
use Rattle.do_class.specs.Class.{Class}
use Rattle.do_grammar.specs.Words.{◌>>?◌}
use Rattle.do_behave.specs.{Numbers.truth, Steps.local, declared.invocation.Invocation.Invocation}
use Rattle.do_behave.specs.declared.act.Act.{Act, TheVariants.{Root, Send}}
use Rattle.do_behave.specs.declared.change.LocalSet.{LocalSet}
use Rattle.do_native_acts.specs.Places.{at_place, by_selector, does_call, in_two, returns}
use Rattle.do_native_acts.specs.{Steps.{caught_to, set, steps}, Owners.owner_in}
use Rattle.do_table.specs.Entries.{value_of}
use Rattle.do_services.specs.{Calls.{call_in, does}, Core.{from_slots, row, service_in}}
use Rattle.do_services.specs.{Core.{texts_value, to_slots}, declared.service.Service.Service}

-- goes on at a place with these locals set, and the handler as it is
abbrev pub keeps_on : Invocation → ℕ → Listed LocalSet → Act
keeps_on inv to sets = steps inv to sets inv.handler []

-- the step after the item was looked for
abbrev pub perform_next : Invocation → Option Service → Act
perform_next inv None =
    keeps_on inv 8 (set 2 (Text (codes "unknown item")) ∷ set 3 Nil ∷ set 14 (Num (pos 0)) ∷ [])
perform_next inv (Some service) = steps inv 1 (set 3 (row service) ∷ []) (caught_to 7) []

-- looks for the service of the item, where the pasteboard is an object or nil
abbrev pub performs : Invocation → Listed Value → Option Act
performs inv slots =
    from_slots slots >>? λ es. local inv 0 >>? text >>? λ item.
    local inv 1 >>? owner_in >>? λ board. Some (perform_next inv (value_of es item))

-- the service that local 3 holds
abbrev pub kept_service : Invocation → Option Service
kept_service inv = local inv 3 >>? service_in

-- asks the pasteboard for one of the types that are sent
abbrev pub asks_type : Invocation → Option Act
asks_type inv =
    kept_service inv >>? λ s. local inv 1 >>? λ board.
    Some (Send board (codes "availableTypeFromArray:") (texts_value s.send ∷ []) 4 (13 ∷ []) 2)

-- there is no such type, or it goes on
abbrev pub has_type : Invocation → Option Act
has_type inv =
    local inv 4 >>? λ kind.
    Some (if is_nil kind
    then keeps_on inv 8 (set 2 (Text (codes "no type")) ∷ set 14 (Num (pos 0)) ∷ [])
    else keeps_on inv 3 [])

-- asks the node of the port for its root
abbrev pub asks_root : Invocation → Option Act
asks_root inv = kept_service inv >>? λ s. Some (Root (Num (pos s.port)) 5 4)

-- the message to the provider of a service
abbrev pub provider_message : Service → Listed ℕ
provider_message s = s.message ++ codes ":userData:error:"

-- asks the provider to perform the service: its error goes to local 2
abbrev pub asks_provider : Invocation → Option Act
asks_provider inv =
    kept_service inv >>? λ s. local inv 5 >>? λ provider. local inv 1 >>? λ board.
    Some (Send provider (provider_message s) (board ∷ s.user ∷ Nil ∷ []) 13 (13 ∷ 13 ∷ 2 ∷ []) 6)

-- performed exactly where the provider set no error
abbrev pub was_performed : Invocation → Option Act
was_performed inv =
    local inv 2 >>? λ error.
    Some (keeps_on inv 8 (set 14 (Num (truth (is_nil error))) ∷ []))

-- what was raised is the error
abbrev pub was_raised : Invocation → Option Act
was_raised inv =
    local inv 15 >>? text >>? λ name.
    Some (keeps_on inv 8 (set 2 (Text name) ∷ set 14 (Num (pos 0)) ∷ []))

-- the places of `performService:pasteboard:error:`
abbrev pub perform_places : Invocation → Listed Value → Listed (Option Act)
perform_places inv slots =
    performs inv slots ∷ asks_type inv ∷ has_type inv ∷ asks_root inv ∷ Some (keeps_on inv 5 [])
    ∷ asks_provider inv ∷ was_performed inv ∷ was_raised inv ∷ returns inv ∷ []

-- the acts of a method that only answers
abbrev pub answers : Listed ℕ → Invocation → Listed Value → Option Act
answers selector inv slots =
    in_two inv (does_call from_slots to_slots does (call_in selector inv) inv slots)

-- the act of the method with a selector
abbrev pub method_act : Listed ℕ → Invocation → Listed Value → Option Act
method_act selector inv slots =
    if bytes_eq selector (codes "performService:pasteboard:error:")
    then at_place inv (perform_places inv slots) else answers selector inv slots

-- the act of a method of a server of services
abbrev pub services_act : Listed Class → Invocation → Listed Value → Act
services_act table inv slots = by_selector table inv (λ selector. method_act selector inv slots)
