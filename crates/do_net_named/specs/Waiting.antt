-- What is under way between the nodes of a network names, read by the names that its reader read
-- last.
use Rattle.std.specs.{Prelude.{Err, List, None, Ok, Option, Some, [], false, ◌∷◌, ℕ}, List.flat_map}
use Rattle.do_base.specs.names.Names.{ObjectName}
use Rattle.do_class.specs.Class.{Class}
use Rattle.do_coder.specs.declared.recent.pair.Pair.{Pair}
use Rattle.do_frames.specs.Frames.{after_frame}
use Rattle.do_lost.specs.Named.{item_names}
use Rattle.do_machine.specs.declared.item.Item.{Item}
use Rattle.do_network.specs.{Frames.{item_of, read_frame}, Links.names_read}
use Rattle.do_network.specs.Net.{Carried, Channel, Lost, Net, Whole, channel, part_at}

-- the items of what stands in a channel, up to the first frame that cannot be read; the mark of a
-- loss is none
abbrev pub items_in : List Class → ℕ → ℕ → List Pair → List Carried → List Item
items_in table from to recent [] = []
items_in table from to recent (Lost ∷ xs) = items_in table from to recent xs
items_in table from to recent (Whole f ∷ xs) =
    elim (read_frame table from to recent f) [
      | Ok g ↦ item_of g ∷ items_in table from to (after_frame recent g) xs
      | Err place ↦ []
    ]

-- the objects that what stands in a channel names; the bytes of an end name none
abbrev pub lane_names : List Class → ℕ → ℕ → List Pair → List Carried → List ObjectName
lane_names table from to recent xs =
    flat_map (item_names from to false) (items_in table from to recent xs)

-- the names that the site of a port read last from another
abbrev pub names_by : Net → ℕ → ℕ → List Pair
names_by N port from = elim (part_at N port) [
  | None ↦ []
  | Some p ↦ names_read p from
]

-- the objects that what stands in a channel names, if there is one
abbrev pub channel_names : List Class → ℕ → ℕ → List Pair → Option Channel → List ObjectName
channel_names table from to recent None = []
channel_names table from to recent (Some c) = lane_names table from to recent c.waiting

-- the objects that what is under way from one node to another names
abbrev pub way_names : List Class → Net → ℕ → ℕ → List ObjectName
way_names table N from to =
    channel_names table from to (names_by N to from) (channel N from to)
