-- What a step is to a caller of a site.
use Rattle.do_network.specs.declared.input.Done.TheVariants as dones
use Rattle.std.specs.Prelude.{Bool, Err, List, None, Ok, Option, Result, Some, [], false}
use Rattle.std.specs.Prelude.{if◌then◌else◌, true, unwrap_or, ℕ, ◌≡◌}
use Rattle.do_class.specs.Class.{Class}
use Rattle.do_machine.specs.declared.{state.Effect.Effect, item.Item.{Item, TheVariants.End}}
use Rattle.do_machine.specs.{declared.node.Node.Node, State.is_open, ends.Closing.closing}
use Rattle.do_machine.specs.{run.Run.Acting, take.Take.{can_take, take_effect}}
use Rattle.do_frames.specs.{declared.frame.Frame.Frame, Frames.after_frame}
use Rattle.do_network.specs.Links.{Link, Part, change_link}
use Rattle.do_network.specs.{Site.{Handled, Move, passed, site_move}, declared.input.Done.Done}
use Rattle.do_network.specs.{declared.input.Input.Input, Counting.got, Own.{Own, site_context}}
use Rattle.do_net.specs.Seen.{Seen, with_handled}
use Rattle.do_effects.specs.{Doing.{Doing, doing, moved}, declared.changing.Core.Core}

-- a node's own state, with its links
abbrev pub part_of : Core → Part
part_of c = record { own = c.part.own; links = c.streams.links }

-- what is seen of a site with these classes and acts
abbrev pub seen_of : List Class → Acting → Core → Seen
seen_of table act c = record {
  table = table;
  act = act;
  part = part_of c;
  frames = c.streams.frames;
  shown = c.streams.shown;
}

-- all lines were taken out; frames may wait
abbrev pub IsTold : Core → Type 0
IsTold c = c.streams.shown ≡ []

-- nothing but room changed
abbrev pub IsSame : Core → Core → Type 0
IsSame before after = doing after ≡ doing before

-- a move was made behind what was done
abbrev pub Makes : Doing → Core → Move → Type 0
Makes before after m = doing after ≡ moved before m

-- what an effect of the node comes to was done
abbrev pub Moves : Core → Core → Effect → Type 0
Moves before after e = Makes (doing before) after (site_move before.part.own e)

-- What an effect of the node comes to was done, where there is one, and that is told; without one
-- nothing changed.
abbrev pub Does : Core → Core → Bool → Option Effect → Type 0
Does before after told (Some e) = (told ≡ true) × Moves before after e
Does before after told None = (told ≡ false) × IsSame before after

-- what a close does, where the end is open
abbrev pub close_effect : ℕ → Node → Option Effect
close_effect peer n = if is_open n peer then Some (closing peer n) else None

-- what the end of a connection does, where it can be taken
abbrev pub end_effect : List Class → ℕ → Own → Option Effect
end_effect table peer p =
    if can_take peer p.node then Some (take_effect (site_context table p) peer (End [])) else None

-- the link once a frame was read
abbrev pub link_read : Frame → Link → Link
link_read f l = record l { read = after_frame l.read f }

-- what was done, with a frame of a peer read besides
abbrev pub with_reading : ℕ → Frame → Doing → Doing
with_reading from f d = record d {
  out = record d.out { links = change_link from (link_read f) d.out.links };
}

-- what taking an item of a peer does, by what the node is judged by
abbrev pub item_move : List Class → ℕ → Item → Own → Move
item_move table from item p =
    site_move (got from item p) (take_effect (site_context table p) from item)

-- what an input comes to that was done or not
abbrev pub done_told : Bool → Done
done_told told = if told then dones.Moved else dones.Skipped

-- A site did its part of an input that is enabled, and told what that came to; one that is not
-- enabled changed nothing. Without memory nothing changed either.
abbrev pub Handles : {E : Type 0} → Seen → Seen → Result Done E → Option Handled → Type 0
Handles before after (Ok done) h =
    (done ≡ (unwrap_or h (passed before.part)).done)
    × (after ≡ with_handled before (unwrap_or h (passed before.part)))
Handles before after (Err e) h = after ≡ before
