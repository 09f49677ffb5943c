-- The acts of the methods.
use Rattle.do_center.specs.declared.methods.Method.TheVariants as method
use Rattle.std.specs.Prelude.{ℕ, ℤ, pos, ◌+◌, ◌-◌, ◌*◌, ◌/◌, ◌%◌, ◌==◌, Bool, nat_le, Option, Some}
use Rattle.std.specs.Prelude.{None, List as Listed, [], ◌∷◌, length, map, codes, if◌then◌else◌}
use Rattle.std.specs.{Prelude.slice_get, Ordering.int_eq, Str.bytes_eq}
use Rattle.do_base.specs.values.Kinds.{items, number, object}
use Rattle.do_base.specs.declared.values.value.Value.{Value, List, TheVariants.Nil}
use Rattle.do_class.specs.Class.{Class}
use Rattle.do_grammar.specs.Words.{◌>>?◌}
use Rattle.do_behave.specs.{Steps.local, declared.{invocation.Invocation.Invocation, act.Act.Act}}
use Rattle.do_behave.specs.declared.{act.Act.TheVariants.Send, change.LocalSet.LocalSet}
use Rattle.do_native_acts.specs.{Places.{by_selector, returns}, Steps.{changes, fits, steps}}
use Rattle.do_center.specs.{Calls.does, Notes.{delivery_value, label_in, note_in}}
use Rattle.do_center.specs.{Registrations.{registration_from, selector_in}, Seats.Core}
use Rattle.do_center.specs.{Slots.{from_slots, to_slots}, declared.calls.Call.Call}
use Rattle.do_center.specs.declared.calls.Call.TheVariants.{Add, Remove, Suspend, Post}
use Rattle.do_center.specs.declared.{methods.Method.Method, notes.Delivery.Delivery}

-- the method of a selector
abbrev pub method_of : Listed ℕ → Option Method
method_of s =
    if bytes_eq s (codes "addObserver:selector:name:object:suspensionBehavior:")
    then Some method.Add else
    if bytes_eq s (codes "removeObserver:name:object:") then Some method.Remove else
    if bytes_eq s (codes "setSuspended:for:") then Some method.Suspend else
    if bytes_eq s (codes "postNotificationName:object:userInfo:deliverImmediately:")
    then Some method.Post else None

-- the local behind the arguments, which keeps the deliveries
abbrev pub kept_in : Method → ℕ
kept_in method.Add = 5
kept_in method.Remove = 3
kept_in method.Suspend = 2
kept_in method.Post = 4

-- whether a number is 1
abbrev pub is_one : ℤ → Bool
is_one n = int_eq n (pos 1)

-- yes where a value is the number 1, and no where it is another
abbrev pub truth_in : Value → Option Bool
truth_in v = number v >>? λ n. Some (is_one n)

-- the call that adds a registration
abbrev pub adds : Invocation → Option Call
adds inv =
    local inv 0 >>? λ o. local inv 1 >>? λ s. local inv 2 >>? λ n. local inv 3 >>? λ a.
    local inv 4 >>? λ b. registration_from o s n a b >>? λ r. Some (Add r)

-- the call that takes out registrations
abbrev pub removes : Invocation → Option Call
removes inv =
    (local inv 0 >>? object) >>? λ o. (local inv 1 >>? label_in) >>? λ n.
    (local inv 2 >>? label_in) >>? λ a. Some (Remove o n a)

-- the call that suspends or resumes
abbrev pub suspends : Invocation → Option Call
suspends inv =
    (local inv 0 >>? truth_in) >>? λ on. (local inv 1 >>? object) >>? λ o. Some (Suspend o on)

-- the call that posts
abbrev pub posts : Invocation → Option Call
posts inv =
    local inv 0 >>? λ n. local inv 1 >>? λ a. local inv 2 >>? λ i.
    (local inv 3 >>? truth_in) >>? λ immediate. note_in n a i >>? λ note.
    Some (Post note immediate)

-- the call that a method and the arguments make
abbrev pub call_in : Method → Invocation → Option Call
call_in method.Add inv = adds inv
call_in method.Remove inv = removes inv
call_in method.Suspend inv = suspends inv
call_in method.Post inv = posts inv

-- the deliveries behind the arguments, and nil as the answer
abbrev pub kept : Method → Listed Delivery → Listed LocalSet
kept m ds =
    record { local = kept_in m; value = List (map delivery_value ds) }
    ∷ record { local = 14; value = Nil } ∷ []

-- the step after what was done
abbrev pub keeps : Method → Invocation → Listed Value → Core × Listed Delivery → Act
keeps m inv slots done =
    steps inv 1 (kept m done.1) inv.handler (changes 0 slots (to_slots done.0))

-- the first act: all that the method does but delivering
abbrev pub first : Method → Invocation → Listed Value → Option Act
first m inv slots =
    from_slots slots >>? λ core. call_in m inv >>? λ call.
    Some (fits (does core call) (keeps m inv slots))

-- what the five parts of a delivery lead to
abbrev pub of_five : {A : Type 0} → (Value → Value → Value → Value → Value → Option A)
    → Listed Value → Option A
of_five f (observer ∷ selector ∷ name ∷ about ∷ info ∷ []) = f observer selector name about info
of_five f _ = None

-- the step before a delivery: an exception leads behind it
abbrev pub readies : Invocation → Listed Value → Option Act
readies inv =
    of_five (λ observer selector name about info.
    Some (steps inv (inv.pc + 1) [] (Some (record { into = 15; pc = inv.pc + 2 })) []))

-- the message of a delivery, whose selector has three colons
abbrev pub delivers : Invocation → Listed Value → Option Act
delivers inv =
    of_five (λ observer selector name about info. selector_in selector >>? λ s.
    Some (Send observer s (name ∷ about ∷ info ∷ []) 13 (13 ∷ 13 ∷ 13 ∷ []) (inv.pc + 1)))

-- at most 1,024
abbrev pub few : Listed Value → Option (Listed Value)
few ds = if nat_le (length ds) 1024 then Some ds else None

-- the deliveries that the first step kept
abbrev pub found : Method → Invocation → Option (Listed Value)
found m inv = (local inv (kept_in m) >>? items) >>? few

-- the parts of the delivery at a place
abbrev pub delivery_at : Listed Value → ℕ → Option (Listed Value)
delivery_at ds k = slice_get ds k >>? items

-- the act at a place of deliveries: two places for each, and behind them the return
abbrev pub delivering : Invocation → Listed Value → ℕ → Option Act
delivering inv ds place =
    if place == 2 * length ds then returns inv else
    delivery_at ds (place / 2) >>? λ parts.
    if place % 2 == 0 then readies inv parts else delivers inv parts

-- the act at a place behind the first
abbrev pub later : Method → Invocation → ℕ → Option Act
later m inv place = found m inv >>? λ ds. delivering inv ds place

-- the act of a method
abbrev pub act_of : Method → Invocation → Listed Value → Option Act
act_of m inv slots = if inv.pc == 0 then first m inv slots else later m inv (inv.pc - 1)

-- the act of the method with this selector
abbrev pub method_act : Listed ℕ → Invocation → Listed Value → Option Act
method_act selector inv slots = method_of selector >>? λ m. act_of m inv slots

-- the act of a method of a centre
abbrev pub center_act : Listed Class → Invocation → Listed Value → Act
center_act table inv slots =
    by_selector table inv (λ selector. method_act selector inv slots)
