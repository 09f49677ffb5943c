use Rattle.do_packet.proofs.laws.values_return.Goals as goal
use Rattle.do_packet.specs.Copies.{copies_of}
use Rattle.do_packet.proofs.{Covers.are_placed, RoundTrip.{closed_returns, open_returns}}

pub returns-clause-same : goal.returns-clause-same
returns-clause-same c = λ s token values p r es hs e home many le lh te th.
    open_returns s token values p r es hs e many home le lh te th

pub returns-clause-closed : goal.returns-clause-closed
returns-clause-closed c = λ s token values p r es hs e home many le lh.
    closed_returns s token values p r es hs e many home le lh

pub returns-clause-apart : goal.returns-clause-apart
returns-clause-apart c = λ s values. are_placed (copies_of s values)
