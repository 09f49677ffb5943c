-- A site while it does a step: what an effect does to it, and what it then leaves.
use Rattle.std.specs.Prelude.{List, fold, ◌++◌}
use Rattle.do_base.specs.declared.events.shown.Shown.{Shown}
use Rattle.do_machine.specs.{declared.state.Effect.Effect, held.Leaving.leaving}
use Rattle.do_network.specs.{Counting.counted, Frames.all_posted, Links.{Outbox, sending}}
use Rattle.do_network.specs.{Own.{Own, is_counted}, Site.Move}
use Rattle.do_streams.specs.Streamed.{outbox}
use Rattle.do_effects.specs.declared.changing.Core.{Core}

-- a node's own state, its links with what waits for its peers, and the lines that wait
pub record Doing : Type 0 where
  pub own : Own
  pub out : Outbox
  pub shown : List Shown

-- what a core is while a step is done
abbrev pub doing : Core → Doing
doing c = record { own = c.part.own; out = outbox c.streams; shown = c.streams.shown }

-- a move behind what was done
abbrev pub moved : Doing → Move → Doing
moved d m = record {
  own = m.own;
  out = fold sending d.out m.posted;
  shown = d.shown ++ m.shown;
}

-- the move that an effect is, before anything is left
abbrev pub effected : Own → Effect → Move
effected p e =
    record { own = counted p e; posted = all_posted p.received e.sent; shown = e.shown }

-- an effect of the node behind what was done
abbrev pub does : Doing → Effect → Doing
does d e = moved d (effected d.own e)

-- the move that leaves what nothing holds any more, judged by the counts
abbrev pub cleared : Own → Move
cleared q = effected q (leaving (is_counted q) q.node)
