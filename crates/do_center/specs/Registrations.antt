-- Registrations: what they may be, which notifications they are for, and as values.
use Rattle.std.specs.Prelude.{ℕ, ℤ, pos, Bool, true, false, ◌&&◌, ◌||◌, ◌==◌, Option, Some, None}
use Rattle.std.specs.{Prelude.{List as Listed, [], ◌∷◌, if◌then◌else◌}, Str.bytes_eq}
use Rattle.do_base.specs.values.Kinds.{text, number, object, items}
use Rattle.do_base.specs.declared.values.value.Value.{Value, List, TheVariants.{Num, Text, Obj}}
use Rattle.do_grammar.specs.{Names.{is_selector, colons}, Words.◌>>?◌}
use Rattle.do_center.specs.{Notes.{is_label, label_in, label_value}, declared.notes.Note.Note}
use Rattle.do_center.specs.declared.notes.Delivery.{Delivery}
use Rattle.do_center.specs.declared.registrations.Registration.{Registration}
use Rattle.do_center.specs.declared.suspension.Suspension.{Suspension, TheVariants.{Drop, Coalesce}}
use Rattle.do_center.specs.declared.suspension.Suspension.TheVariants.{Hold, DeliverImmediately}

-- a selector of three colons
abbrev pub takes_three : Listed ℕ → Bool
takes_three s = is_selector s && colons s == 3

-- a registration within the limits
abbrev pub is_registration : Registration → Bool
is_registration r =
    takes_three r.selector && is_label r.name && is_label r.object

-- the selector of three colons that a value is
abbrev pub selector_in : Value → Option (Listed ℕ)
selector_in v = text v >>? λ s. if takes_three s then Some s else None

-- the behaviour of a number from 0 to 4, where 0 stands for Coalesce
abbrev pub behaviour_of : ℕ → Option Suspension
behaviour_of n =
    if n == 1 then Some Drop else
    if (n == 0) || (n == 2) then Some Coalesce else
    if n == 3 then Some Hold else
    if n == 4 then Some DeliverImmediately else None

-- the number of a behaviour
abbrev pub number_of : Suspension → ℕ
number_of Drop = 1
number_of Coalesce = 2
number_of Hold = 3
number_of DeliverImmediately = 4

-- the behaviour of a number that is not negative
abbrev pub behaviour_number : ℤ → Option Suspension
behaviour_number (pos n) = behaviour_of n
behaviour_number _ = None

-- the behaviour that a value is
abbrev pub behaviour_in : Value → Option Suspension
behaviour_in v = number v >>? behaviour_number

-- a label stands for itself, and none for any
abbrev pub fits_label : Option (Listed ℕ) → Option (Listed ℕ) → Bool
fits_label None other = true
fits_label (Some s) (Some t) = bytes_eq s t
fits_label (Some s) None = false

-- a notification has a name and is about an object that the registration is for
abbrev pub matches : Registration → Note → Bool
matches r note = fits_label r.name (Some note.name) && fits_label r.object note.object

-- a notification on its way to the observer
abbrev pub delivered : Registration → Note → Delivery
delivered r note = record { observer = r.observer; selector = r.selector; note = note }

-- the registration that five values are
abbrev pub registration_from : Value → Value → Value → Value → Value → Option Registration
registration_from observer selector name about behaviour =
    object observer >>? λ o. selector_in selector >>? λ s. label_in name >>? λ n.
    label_in about >>? λ a. behaviour_in behaviour >>? λ b.
    Some (record { observer = o; selector = s; name = n; object = a; behaviour = b })

-- the same, of their list
abbrev pub registration_of : Listed Value → Option Registration
registration_of (observer ∷ selector ∷ name ∷ about ∷ behaviour ∷ []) =
    registration_from observer selector name about behaviour
registration_of _ = None

-- the registration that a value is
abbrev pub registration_in : Value → Option Registration
registration_in v = items v >>? registration_of

-- a registration as a value
abbrev pub registration_value : Registration → Value
registration_value r =
    List (Obj r.observer ∷ Text r.selector ∷ label_value r.name ∷ label_value r.object
    ∷ Num (pos (number_of r.behaviour)) ∷ [])
