-- Which objects a name in a message and an item export or release, by their kinds.
use Rattle.do_machine.specs.declared.item.Item.TheVariants as items
use Rattle.std.specs.{Prelude.{List, None, Option, Some, [], map, ℕ, ◌∷◌}, List.filter_map}
use Rattle.do_base.specs.names.Names.{ObjectName}
use Rattle.do_class.specs.declared.packet.Name.{Name, TheVariants.Mine}
use Rattle.do_machine.specs.{declared.item.Item.Item, Objects.object_at}

-- the object of a name, as one of the sender's
abbrev pub mine_of : ℕ → Name → Option ObjectName
mine_of from (Mine serial class) = Some (object_at from serial)
mine_of from _ = None

-- the objects that an item exports, as the sender's
abbrev pub exports_of : ℕ → Item → List ObjectName
exports_of from (items.Call number m) = filter_map (mine_of from) m.packet.names
exports_of from (items.Oneway m) = filter_map (mine_of from) m.packet.names
exports_of from (items.Reply number packet) = filter_map (mine_of from) packet.names
exports_of from (items.RootAnswer number packet) = filter_map (mine_of from) packet.names
exports_of from (items.Granted serial token) = object_at from serial ∷ []
exports_of from _ = []

-- the objects that an item releases, as the receiver's
abbrev pub releases_of : ℕ → Item → List ObjectName
releases_of to (items.Left serial) = object_at to serial ∷ []
releases_of to (items.End serials) = map (object_at to) serials
releases_of to _ = []
