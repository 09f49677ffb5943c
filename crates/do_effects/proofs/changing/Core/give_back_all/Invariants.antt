-- The objects that were given back so far.
use Rattle.do_effects.proofs.changing.Core.give_back_all.Given as goal
use Rattle.std.{proofs.Common.{◌≡◌, ◌≤◌, ◌+◌, drop, length, map}, specs.Prelude.fold}
use Rattle.do_network.specs.Links.{sending}
use Rattle.do_part.specs.Left.{given_up}
use Rattle.do_streams.specs.Streamed.{outbox}
use Rattle.do_effects.proofs.Telling.{IsTelling}

-- giving the rest back as well gives all back, no line was shown, and each took one place at most
abbrev pub invariant-loop-one : goal.invariant-loop-one
invariant-loop-one l =
    IsTelling l.one-index (length l.left) l.initial.self l.self
    × (fold sending (outbox l.self.streams) (map given_up (drop l.one-index l.left))
    ≡ fold sending (outbox l.initial.self.streams) (map given_up l.left))
    × (l.self.streams.shown ≡ l.initial.self.streams.shown)
    × (l.initial.self.streams.bare ≤ l.self.streams.bare + l.one-index)
