-- The objects that were shown so far.
use Rattle.do_effects.proofs.changing.Core.show_freed.Given as goal
use Rattle.std.proofs.Common.{◌≡◌, ◌++◌, drop, length}
use Rattle.do_leaving.specs.Left.{free_shown}
use Rattle.do_streams.specs.Streamed.{outbox}
use Rattle.do_effects.proofs.Telling.{IsTelling}

-- showing the rest as well shows all, nothing was sent, and no frame came into a place
abbrev pub invariant-loop-freed_serial : goal.invariant-loop-freed_serial
invariant-loop-freed_serial l =
    IsTelling l.freed_serial-index (length l.freed) l.initial.self l.self
    × (l.self.streams.shown
    ++ free_shown l.initial.self.part.own.node (drop l.freed_serial-index l.freed)
    ≡ l.initial.self.streams.shown ++ free_shown l.initial.self.part.own.node l.freed)
    × (outbox l.self.streams ≡ outbox l.initial.self.streams)
    × (l.self.streams.bare ≡ l.initial.self.streams.bare)
