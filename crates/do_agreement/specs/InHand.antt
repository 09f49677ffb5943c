-- A node that has an item in hand, and what the item comes to there.
use Rattle.std.specs.Prelude.{List, ℕ}
use Rattle.do_class.specs.Class.{Class}
use Rattle.do_machine.specs.{declared.state.Effect.Effect, Items.exported}
use Rattle.do_machine.specs.take.Take.{holding, take_effect}
use Rattle.do_network.specs.{Counting.got, Frames.item_of, Own.{Own, site_context}}
use Rattle.do_network.specs.{Site.released_by, fits.Notes.{Note, note_frame}}

-- The node that takes an item of a peer, before the item comes to anything: it holds what the item
-- exports and has received it once more, and what the item gives back is taken off
abbrev pub in_hand : ℕ → Note → Own → Own
in_hand from x p =
    let item = item_of (note_frame x) in
    let q = got from item (released_by from (note_frame x) p) in
    record q { node = holding (exported from p.node.port item) p.node }

-- the effect of the oldest item that a site takes
abbrev pub taken_by : List Class → ℕ → Note → Own → Effect
taken_by table from x p =
    take_effect (site_context table (released_by from (note_frame x) p)) from
    (item_of (note_frame x))
