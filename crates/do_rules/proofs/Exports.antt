-- Which of the objects that an item names are exported, and which released.
use Rattle.do_machine.specs.declared.item.Item.TheVariants as items
use Rattle.std.{proofs.Common.{◌≡◌, ℕ, List, [], ◌∷◌, map, refl, ap, sym}, specs.List.filter_map}
use Rattle.do_class.specs.declared.packet.Name.{Name, TheVariants.{Lent, Mine, Yours}}
use Rattle.do_machine.specs.{declared.item.Item.Item, Objects.object_at}
use Rattle.do_machine.specs.Items.{exported, is_exported, is_released, name_naming, named_as}
use Rattle.do_machine.specs.Items.{naming, released, Role.Released}
use Rattle.do_rules.specs.Exporting.{exports_of, mine_of, releases_of}

-- a message releases no object
no_releases : (from to : ℕ) (ns : List Name) →
    [] ≡ named_as is_released (map (name_naming from to) ns)
no_releases from to [] = refl
no_releases from to (Mine serial class ∷ ns) = no_releases from to ns
no_releases from to (Yours serial ∷ ns) = no_releases from to ns
no_releases from to (Lent p class token ∷ ns) = no_releases from to ns

-- the objects of released serials
serials_released : (to : ℕ) (ss : List ℕ) →
    map (object_at to) ss ≡ named_as is_released (map (naming Released to) ss)
serials_released to [] = refl
serials_released to (s ∷ ss) = ap (λ os. object_at to s ∷ os) (serials_released to ss)

-- the objects that a message exports are those of its names as the sender's
all_exported : (from to : ℕ) (ns : List Name) →
    filter_map (mine_of from) ns ≡ named_as is_exported (map (name_naming from to) ns)
all_exported from to [] = refl
all_exported from to (Mine serial class ∷ ns) =
    ap (λ os. object_at from serial ∷ os) (all_exported from to ns)
all_exported from to (Yours serial ∷ ns) = all_exported from to ns
all_exported from to (Lent p class token ∷ ns) = all_exported from to ns

-- an end exports no object
ends_export : (to : ℕ) (ss : List ℕ) → named_as is_exported (map (naming Released to) ss) ≡ []
ends_export to [] = refl
ends_export to (s ∷ ss) = ends_export to ss

-- the objects that an item exports
pub all_exports : (from to : ℕ) (item : Item) → exports_of from item ≡ exported from to item
all_exports from to (items.Call number m) = all_exported from to m.packet.names
all_exports from to (items.Oneway m) = all_exported from to m.packet.names
all_exports from to (items.Reply number packet) = all_exported from to packet.names
all_exports from to (items.Raised number e) = refl
all_exports from to (items.RootAsk number) = refl
all_exports from to (items.RootAnswer number packet) = all_exported from to packet.names
all_exports from to (items.Ask serial token) = refl
all_exports from to (items.Granted serial token) = refl
all_exports from to (items.Gone serial token) = refl
all_exports from to (items.Left serial) = refl
all_exports from to (items.Settled number) = refl
all_exports from to (items.End serials) = sym (ends_export to serials)

-- the objects that an item releases
pub all_releases : (from to : ℕ) (item : Item) → releases_of to item ≡ released from to item
all_releases from to (items.Call number m) = no_releases from to m.packet.names
all_releases from to (items.Oneway m) = no_releases from to m.packet.names
all_releases from to (items.Reply number packet) = no_releases from to packet.names
all_releases from to (items.Raised number e) = refl
all_releases from to (items.RootAsk number) = refl
all_releases from to (items.RootAnswer number packet) = no_releases from to packet.names
all_releases from to (items.Ask serial token) = refl
all_releases from to (items.Granted serial token) = refl
all_releases from to (items.Gone serial token) = refl
all_releases from to (items.Left serial) = refl
all_releases from to (items.Settled number) = refl
all_releases from to (items.End serials) = serials_released to serials
