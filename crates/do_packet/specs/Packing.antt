-- A message, packed.
use Rattle.std.specs.Prelude.{Err, List, Ok, Result, [], fold, if◌then◌else◌, length, map, min}
use Rattle.std.specs.Prelude.{nat_lt, suc, sum_by, unwrap_or, ℕ, ◌+◌, ◌++◌, ◌==◌, ◌∷◌}
use Rattle.do_base.specs.{names.Names.ObjectName, values.Values.weight_of}
use Rattle.do_class.specs.{Table.class_id, declared.{ids.ClassId.ClassId, packet.Copied.Copied}}
use Rattle.do_class.specs.declared.packet.Name.{Name, TheVariants.{Lent, Mine, Yours}}
use Rattle.do_class.specs.declared.packet.{Packet.Packet, Part.Part}
use Rattle.do_packet.specs.Copies.{Placed, copies_of, most_copies, names_with, slot_values}
use Rattle.do_packet.specs.{Copies.slots_at, Parts.part_of, Seen.Sender}
use Rattle.do_packet.specs.declared.fault.PackFault.{PackFault, TheVariants.TooLarge}

-- the part for a place, in a message with these copies and names
abbrev pub part_at : Sender → List ObjectName → List ObjectName → Placed → Part
part_at s copies names p = part_of s.seen s.node p.0 copies names p.1

-- the class of an object in a message: what is copied or named has one, so the default never shows
abbrev pub class_at : Sender → ObjectName → ClassId
class_at s o = unwrap_or (s.seen.class_of o) (class_id 0)

-- a copied object, with its slots
abbrev pub copied_of : Sender → List ObjectName → List ObjectName → ObjectName → Copied
copied_of s copies names o =
    record { class = class_at s o; slots = map (part_at s copies names) (slots_at s o) }

-- the names of a message so far, and the token that is next
pub record Naming : Type 0 where
  pub names : List Name
  pub token : ℕ

-- the names with one more that uses no token
abbrev named : Naming → Name → Naming
named n name = record n { names = n.names ++ name ∷ [] }

-- the names with one more, which is lent under the next token
abbrev lent : Naming → ObjectName → ClassId → Naming
lent n o class = record { names = n.names ++ Lent o class n.token ∷ []; token = suc n.token }

-- one more name: an object of the sender, of the receiver, or of a third node, which is lent
abbrev pub name_next : Sender → ℕ → Naming → ObjectName → Naming
name_next s to n o =
    if o.node == s.node then named n (Mine o.serial (class_at s o))
    else (if o.node == to then named n (Yours o.serial) else lent n o (class_at s o))

-- the names of objects in a message to a node, from the next token on
abbrev pub names_to : Sender → ℕ → ℕ → List ObjectName → List Name
names_to s to token os = (fold (name_next s to) (record { names = []; token = token }) os).names

-- the weights of the values, and for each copy 16 and the weights of its slots
abbrev pub message_weight : Sender → List Placed → List ObjectName → ℕ
message_weight s values copies =
    sum_by (λ p. weight_of p.1) values
    + sum_by (λ o. 16 + sum_by weight_of (slot_values s o)) copies

-- the most that a message may weigh
abbrev pub most_weight : ℕ
most_weight = 2097152

-- the message with these copies and named objects, to a node, from the next token on
abbrev pub packet_with : Sender → ℕ → ℕ → List Placed → List ObjectName → List ObjectName → Packet
packet_with s to token values copies names = record {
  names = names_to s to token names;
  copies = map (copied_of s copies names) copies;
  values = map (part_at s copies names) values;
}

-- what 64 bits can tell of a number: the number, or 2^64 - 1 where it is more
abbrev pub capped : ℕ → ℕ
capped n = min 18446744073709551615 n

-- the message with these copies, or that they are too many, or else that it weighs too much
abbrev pub packed_with : Sender → ℕ → ℕ → List Placed → List ObjectName → Result Packet PackFault
packed_with s to token values copies =
    if nat_lt most_copies (length copies) then Err (TooLarge (suc most_copies) most_copies)
    else (if nat_lt most_weight (message_weight s values copies)
    then Err (TooLarge (capped (message_weight s values copies)) most_weight)
    else Ok (packet_with s to token values copies (names_with s values copies)))

-- values as a message to a node, from the next token on
unfoldable pub packed : Sender → ℕ → ℕ → List Placed → Result Packet PackFault
packed s to token values = packed_with s to token values (copies_of s values)
