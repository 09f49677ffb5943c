-- What a message makes of each object, and the objects met in turn.
use Rattle.std.specs.Prelude.{Bool, List, [], false, filter, fold, if◌then◌else◌, is_some, true, ℕ}
use Rattle.std.specs.{Prelude.{◌&&◌, ◌++◌, ◌==◌, ◌∷◌}, List.{list_any, position_or_len}}
use Rattle.do_base.specs.{names.Names.ObjectName, values.Values.objects_of}
use Rattle.do_base.specs.declared.values.value.Value.{Value}
use Rattle.do_packet.specs.{Seen.Seen, declared.role.Role.Role}
use Rattle.do_packet.specs.declared.role.Role.TheVariants.{Absent, Copied, Named}

-- an own object is copied in a bycopy place and named in any other
abbrev own_role : Bool → Role
own_role copy = if copy then Copied else Named

-- a foreign object is named where the sender may name it at present, and else becomes nil
abbrev foreign_role : Bool → Role
foreign_role usable = if usable then Named else Absent

-- what becomes of an object in a place that is bycopy or not; without a class it becomes nil
abbrev pub role_of : Seen → ℕ → Bool → ObjectName → Role
role_of seen from copy o =
    if is_some (seen.class_of o)
    then (if o.node == from then own_role copy else foreign_role (seen.usable o))
    else Absent

-- the object is copied
abbrev pub is_copied : Role → Bool
is_copied Copied = true
is_copied _ = false

-- the object is named
abbrev pub is_named : Role → Bool
is_named Named = true
is_named _ = false

-- two names are of one object
abbrev pub same_object : ObjectName → ObjectName → Bool
same_object a b = (a.node == b.node) && (a.serial == b.serial)

-- an object is among others
abbrev pub has_object : List ObjectName → ObjectName → Bool
has_object os o = list_any (same_object o) os

-- the objects met, after one more is met
abbrev pub met_one : List ObjectName → ObjectName → List ObjectName
met_one os o = if has_object os o then os else os ++ o ∷ []

-- the objects met, after more are met in turn: each stands once, where it was met first
abbrev pub met : List ObjectName → List ObjectName → List ObjectName
met os more = fold met_one os more

-- where an object stands among those met
abbrev pub place : List ObjectName → ObjectName → ℕ
place os o = position_or_len (same_object o) os

-- the copied objects of a value in a place that is bycopy or not, from left to right
abbrev pub copied_in : Seen → ℕ → Bool → Value → List ObjectName
copied_in seen from copy v = filter (λ o. is_copied (role_of seen from copy o)) (objects_of v)

-- the named objects of a value in such a place
abbrev pub named_in : Seen → ℕ → Bool → Value → List ObjectName
named_in seen from copy v = filter (λ o. is_named (role_of seen from copy o)) (objects_of v)
