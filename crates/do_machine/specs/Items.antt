-- Which objects an item names, and how.
use Rattle.do_machine.specs.declared.item.Item.TheVariants as items
use Rattle.std.specs.Prelude.{Bool, List, [], false, filter, map, true, ℕ, ◌∷◌}
use Rattle.do_base.specs.{names.Names.ObjectName, values.Kinds.number}
use Rattle.do_class.specs.declared.packet.{Packet.Packet, Name.Name}
use Rattle.do_class.specs.declared.packet.Name.TheVariants.{Lent, Mine, Yours}
use Rattle.do_machine.specs.{declared.item.Item.Item, Objects.object_at}

-- how an item names an object
pub data Role : Type 0 where
  -- the receiver holds the sender's object from then on
  Exported : Role
  -- the sender holds the receiver's object no more
  Released : Role
  -- nothing changes hands
  Mentioned : Role

-- an object that an item names, and how
pub record Naming : Type 0 where
  pub object : ObjectName
  pub role : Role

-- an object of a node, named in a role
abbrev pub naming : Role → ℕ → ℕ → Naming
naming role port serial = record { object = object_at port serial; role = role }

-- an object that a message names
abbrev pub name_naming : ℕ → ℕ → Name → Naming
name_naming from to (Mine serial class) = naming Exported from serial
name_naming from to (Yours serial) = naming Mentioned to serial
name_naming from to (Lent o class token) = naming Mentioned o.node o.serial

-- the objects that a message names
abbrev pub packet_names : ℕ → ℕ → Packet → List Naming
packet_names from to packet = map (name_naming from to) packet.names

-- all that an item names
abbrev pub names : ℕ → ℕ → Item → List Naming
names from to (items.Call number m) = naming Mentioned to m.target ∷ packet_names from to m.packet
names from to (items.Oneway m) = naming Mentioned to m.target ∷ packet_names from to m.packet
names from to (items.Reply number packet) = packet_names from to packet
names from to (items.RootAnswer number packet) = packet_names from to packet
names from to (items.Ask serial token) = naming Mentioned to serial ∷ []
names from to (items.Granted serial token) = naming Exported from serial ∷ []
names from to (items.Gone serial token) = naming Mentioned from serial ∷ []
names from to (items.Left serial) = naming Released to serial ∷ []
names from to (items.End serials) = map (naming Released to) serials
names from to _ = []

-- the role is that of an export
abbrev pub is_exported : Role → Bool
is_exported Exported = true
is_exported _ = false

-- the role is that of a release
abbrev pub is_released : Role → Bool
is_released Released = true
is_released _ = false

-- the objects that are named in such a role
abbrev pub named_as : (Role → Bool) → List Naming → List ObjectName
named_as test ns = map (λ x. x.object) (filter (λ x. test x.role) ns)

-- the sender's objects that the receiver holds from then on
abbrev pub exported : ℕ → ℕ → Item → List ObjectName
exported from to item = named_as is_exported (names from to item)

-- the receiver's objects that the sender holds no more
abbrev pub released : ℕ → ℕ → Item → List ObjectName
released from to item = named_as is_released (names from to item)
