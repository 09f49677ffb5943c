-- The lenders that were told so far.
use Rattle.do_effects.proofs.changing.Core.settle_all.Given as goal
use Rattle.std.{proofs.Common.{◌≡◌, ◌≤◌, ◌+◌, drop, length}, specs.Prelude.fold}
use Rattle.do_network.specs.Links.{sending}
use Rattle.do_streams.specs.Streamed.{outbox}
use Rattle.do_effects.{specs.Settled.settle_posts, proofs.Telling.IsTelling}

-- telling the rest as well tells all, no line was shown, and each took one place at most
abbrev pub invariant-loop-token : goal.invariant-loop-token
invariant-loop-token l =
    IsTelling l.token-index (length l.settled) l.initial.self l.self
    × (fold sending (outbox l.self.streams)
    (settle_posts l.initial.self.part.own.node (drop l.token-index l.settled))
    ≡ fold sending (outbox l.initial.self.streams)
    (settle_posts l.initial.self.part.own.node l.settled))
    × (l.self.streams.shown ≡ l.initial.self.streams.shown)
    × (l.initial.self.streams.bare ≤ l.self.streams.bare + l.token-index)
