-- What a node holds, and what it gives back once it does not.
use Rattle.do_machine.specs.declared.item.Item.TheVariants as items
use Rattle.std.proofs.Common.{◌≡◌, ◌||◌, ℕ, Bool, false, List, [], ◌∷◌, map, refl, arith}
use Rattle.std.specs.List.{list_any}
use Rattle.do_base.specs.names.Names.{ObjectName}
use Rattle.do_class.specs.declared.packet.Name.{Name}
use Rattle.do_packet.specs.Met.{has_object}
use Rattle.do_machine.specs.declared.{item.Item.Item, node.Node.Node, state.Effect.Effect}
use Rattle.do_machine.specs.{declared.state.Parcel.Parcel, Commit.items_to, Entry.is_holder}
use Rattle.do_machine.specs.Items.{is_released, name_naming, named_as, released}
use Rattle.do_facts.proofs.machine.{follows.Steady.is_release, passing.Quiet.{NoneReleases, Quiet}}

-- the items that are sent to the home of an object release it
abbrev pub gives_back : ℕ → ObjectName → List Parcel → Bool
gives_back port o sent =
    list_any (λ item. has_object (released port o.node item) o) (items_to o.node sent)

-- what a node holds after an effect, or gives back by it, is what it held before, or what came
pub record Passes (port : ℕ) (o : ObjectName) (n : Node) (came : Bool) (e : Effect) : Type 0 where
  pub same : (is_holder o e.node || gives_back port o e.sent) ≡ (is_holder o n || came)

-- the names of a message release nothing
names_release_none : (from to : ℕ) (names : List Name) →
    named_as is_released (map (name_naming from to) names) ≡ []
names_release_none from to [] = refl
names_release_none from to (name ∷ names) = grind (arith, names_release_none from to names)

-- an item that is no release releases nothing
releases_none : (from to : ℕ) (item : Item) → is_release item ≡ false → released from to item ≡ []
releases_none from to (items.Call number m) h = names_release_none from to m.packet.names
releases_none from to (items.Oneway m) h = names_release_none from to m.packet.names
releases_none from to (items.Reply number p) h = names_release_none from to p.names
releases_none from to (items.RootAnswer number p) h = names_release_none from to p.names
releases_none from to (items.Left serial) h = absurd (cc)
releases_none from to (items.End serials) h = absurd (cc)
releases_none from to _ h = refl

module _ (port : ℕ) (o : ObjectName) where
  -- parcels that release nothing
  pub gives_none : (sent : List Parcel) → NoneReleases sent → gives_back port o sent ≡ false
  gives_none [] h = refl
  gives_none (p ∷ ps) h =
      grind (arith, releases_none port o.node p.item h.0, gives_none ps h.1)

  -- a quiet effect
  pub passes_quiet : (n : Node) (e : Effect) → Quiet n e → Passes port o n false e
  passes_quiet n e q =
      record { same = grind (arith, q.held, q.ends, gives_none e.sent q.sent) }
