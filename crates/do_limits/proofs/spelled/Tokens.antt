-- The tokens that are on their way, or asked by, were given.
use Rattle.std.proofs.Common.{ℕ, List, arith}
use Rattle.do_base.specs.declared.events.event.Event.{Event}
use Rattle.do_class.specs.Class.{Class}
use Rattle.do_machine.specs.{declared.state.Seat.Seat, run.Run.Acting}
use Rattle.do_facts.specs.{Net.Net, Reached.reached, View.net_of, links.Facts.LinksHold}
use Rattle.do_facts.specs.links.{Links.{Atom, Links, links}, LinksAreKept.LinksAreKept}
use Rattle.do_facts.specs.links.Moves.{link_rules}
use Rattle.do_facts.proofs.links.ReachedLinks.{opening_keeps, step_keeps, step_moves}
use Rattle.do_limits.proofs.spelled.{Given.IsGiven, LentTokens.TokenGiven}
use Rattle.do_limits.proofs.spelled.ReachedGiven.{reached_given}
use Rattle.do_limits.proofs.spelled.TokenMoves.{AsksGiven, TokensGiven, tokens_given_keep}

-- a node gave a lend this token
abbrev pub Given : Net Links Atom → ℕ → ℕ → Type 0
Given = IsGiven link_rules (λ p. p.token) AsksGiven TokenGiven

-- the tokens that are on their way in each state that a machine comes to
pub tokens_given : (table : List Class) (act : Acting) (seats : List Seat) (events : List Event) →
    TokensGiven (net_of links (reached table act seats events))
tokens_given table act seats =
    reached_given links link_rules (λ p. p.token) AsksGiven TokenGiven LinksAreKept LinksHold
    (λ S kept. kept.hold) tokens_given_keep table act (step_keeps table act)
    (step_moves table act) seats (opening_keeps table seats) ((λ peer o. absurd (cc (o))), tt)
    (λ all s. ((λ peer o. omega arith), tt))
