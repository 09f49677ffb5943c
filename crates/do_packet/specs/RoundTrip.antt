-- What a receiver makes of a message, in words of what was sent.
use Rattle.std.specs.Prelude.{Bool, List, false, if◌then◌else◌, map, slice_get, true, unwrap_or, ℕ}
use Rattle.std.specs.{Prelude.{◌+◌, ◌==◌, ◌≡◌}, List.AllByRecursion}
use Rattle.do_base.specs.{names.Names.ObjectName, declared.values.value.Value.List as Values}
use Rattle.do_base.specs.declared.values.value.Value.{Value, fold-Value, TheOpen.Value-F}
use Rattle.do_base.specs.declared.values.value.Value.TheVariants.{Nil, Num, Obj, Text}
use Rattle.do_packet.specs.{Copies.{Placed, slots_at}, Met.{has_object, place, role_of}}
use Rattle.do_packet.specs.{Packing.class_at, Seen.Sender, declared.receipt.Made.Made}
use Rattle.do_packet.specs.declared.{receipt.{Receipt.Receipt, Unpacked.Unpacked}, role.Role.Role}
use Rattle.do_packet.specs.declared.role.Role.TheVariants.{Absent, Copied, Named}

-- a copied object becomes the new object of its place among the copies, a named one what it means
-- at the receiver, and any other nil
abbrev pub renamed_as : Receipt → List ObjectName → (ObjectName → Value) → Role → ObjectName → Value
renamed_as r copies means Copied o =
    Obj (record { node = r.to; serial = r.next + place copies o })
renamed_as r copies means Named o = means o
renamed_as r copies means Absent o = Nil

-- one level of a value in a place that is bycopy or not, whose values inside are renamed already
abbrev pub renamed_step : Sender → Receipt → List ObjectName → (ObjectName → Value) → Bool →
    Value-F Value → Value
renamed_step s r copies means copy Value-F.Nil = Nil
renamed_step s r copies means copy (Value-F.Num n) = Num n
renamed_step s r copies means copy (Value-F.Text t) = Text t
renamed_step s r copies means copy (Value-F.Obj o) =
    renamed_as r copies means (role_of s.seen s.node copy o) o
renamed_step s r copies means copy (Value-F.List vs) = Values vs

-- the same value, with each object renamed
abbrev pub renamed : Sender → Receipt → List ObjectName → (ObjectName → Value) → Bool → Value →
    Value
renamed s r copies means copy = fold-Value Value (renamed_step s r copies means copy)

-- the value at a place, renamed
abbrev pub renamed_at : Sender → Receipt → List ObjectName → (ObjectName → Value) → Placed → Value
renamed_at s r copies means p = renamed s r copies means p.0 p.1

-- a copied object, with its class and its slots renamed
abbrev pub renamed_object : Sender → Receipt → List ObjectName → (ObjectName → Value) →
    ObjectName → Made
renamed_object s r copies means o = record {
  class = class_at s o;
  slots = map (renamed_at s r copies means) (slots_at s o);
}

-- what was sent, renamed
abbrev pub renamed_message : Sender → Receipt → List Placed → List ObjectName →
    (ObjectName → Value) → Unpacked
renamed_message s r values copies means = record {
  copies = map (renamed_object s r copies means) copies;
  values = map (renamed_at s r copies means) values;
}

-- a named object stays itself at the receiver: it is the sender's, or an own one with an entry, or
-- one of a third node whose home's end is open
abbrev pub stays : Sender → Receipt → ObjectName → Bool → Bool → Bool
stays s r o entry open_home =
    if o.node == s.node then true else (if o.node == r.to then entry else open_home)

-- what the receiver has for the name at a place
abbrev pub flag_at : List Bool → ℕ → Bool
flag_at flags k = unwrap_or (slice_get flags k) false

-- what a named object means at the receiver, by what it has for each name: itself, or nil
abbrev pub meant : Sender → Receipt → List ObjectName → List Bool → List Bool → ObjectName → Value
meant s r names entries open_home o =
    if stays s r o (flag_at entries (place names o)) (flag_at open_home (place names o))
    then Obj o else Nil

-- each of the flags is true
abbrev pub AllTrue : List Bool → Type 0
AllTrue flags = AllByRecursion (λ b. b ≡ true) flags

-- no two of the objects have one place
abbrev pub ArePlaced : List ObjectName → Type 0
ArePlaced os = (a b : ObjectName) → has_object os a ≡ true → has_object os b ≡ true →
    place os a ≡ place os b → a ≡ b
