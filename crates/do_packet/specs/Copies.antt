-- Which objects a message copies, and which it names.
use Rattle.std.specs.Prelude.{Bool, List, [], false, length, map, option_and_then, suc, zero}
use Rattle.std.specs.Prelude.{Option, true, unwrap_or, ℕ, ◌++◌, ◌==◌, ◌≡◌, ◌≤◌}
use Rattle.std.specs.List.{flat_map, zip}
use Rattle.do_base.specs.{names.Names.ObjectName, declared.values.value.Value.Value}
use Rattle.do_class.specs.{Class.Class, Table.slots_of, declared.ids.ClassId.ClassId}
use Rattle.do_packet.specs.{Met.{copied_in, met, named_in}, Seen.Sender}

-- a value, and whether its place is bycopy
abbrev pub Placed : Type 0
Placed = Bool × Value

-- the copied objects at a place
abbrev pub copied_at : Sender → Placed → List ObjectName
copied_at s p = copied_in s.seen s.node p.0 p.1

-- the named objects at a place
abbrev pub named_at : Sender → Placed → List ObjectName
named_at s p = named_in s.seen s.node p.0 p.1

-- which slots of a class are bycopy places; a class that is not there has no slots
abbrev pub marks : List Class → Option ClassId → List Bool
marks table class =
    map (λ slot. slot.copy) (unwrap_or (option_and_then (λ c. slots_of table c) class) [])

-- what the slots of an object hold; an object that is not seen has none
abbrev pub slot_values : Sender → ObjectName → List Value
slot_values s o = unwrap_or (s.seen.slots o) []

-- the slots of an object as places
abbrev pub slots_at : Sender → ObjectName → List Placed
slots_at s o = zip (marks s.table (s.seen.class_of o)) (slot_values s o)

-- the places of a message with these copies: the values sent, then the slots of the copies in order
abbrev pub contents : Sender → List Placed → List ObjectName → List Placed
contents s values copies = values ++ flat_map (slots_at s) copies

-- the copied objects at the places of such a message, each where it is met first
abbrev pub grown : Sender → List Placed → List ObjectName → List ObjectName
grown s values copies = met [] (flat_map (copied_at s) (contents s values copies))

-- the copies of a message: the list that is its own list of copied objects, and no shorter one is
pub record IsCopies (s : Sender) (values : List Placed) (copies : List ObjectName) : Type 0 where
  pub closed : grown s values copies ≡ copies
  pub shortest : (other : List ObjectName) → grown s values other ≡ other →
      length copies ≤ length other

-- f again and again, until the list grows no more or the rounds are over
unfoldable pub rounds : ℕ → (List ObjectName → List ObjectName) → List ObjectName →
    List ObjectName
rounds zero f os = os
rounds (suc n) f os =
    let more = f os in
    elim (length more == length os) [ true ↦ os | false ↦ rounds n f more ]

-- the most objects that a message may copy
abbrev pub most_copies : ℕ
most_copies = 4096

-- the copies, computed: as many rounds as that and one find all, or more than a message may copy
abbrev pub copies_of : Sender → List Placed → List ObjectName
copies_of s values = rounds (suc most_copies) (grown s values) []

-- the objects that a message with these copies names, each where it is met first
abbrev pub names_with : Sender → List Placed → List ObjectName → List ObjectName
names_with s values copies = met [] (flat_map (named_at s) (contents s values copies))
