-- The numbers of calls that are on their way, or served, were given.
use Rattle.std.proofs.Common.{ℕ, List, arith}
use Rattle.do_base.specs.declared.events.event.Event.{Event}
use Rattle.do_class.specs.Class.{Class}
use Rattle.do_machine.specs.{declared.state.Seat.Seat, run.Run.Acting}
use Rattle.do_facts.specs.{Net.Net, Reached.reached, View.net_of, calls.Calls.{Atom, Calls, calls}}
use Rattle.do_facts.specs.calls.{Facts.{CallsAreKept, CallsHold}, Moves.call_rules}
use Rattle.do_facts.proofs.calls.ReachedCalls.{opening_keeps, step_keeps, step_moves}
use Rattle.do_limits.proofs.spelled.CallMoves.{CallsGiven, ServedGiven, calls_given_keep}
use Rattle.do_limits.proofs.spelled.{Given.IsGiven, ReachedGiven.reached_given}
use Rattle.do_limits.proofs.spelled.ServedCalls.{AtomGiven}

-- a node gave a call this number
abbrev pub Given : Net Calls Atom → ℕ → ℕ → Type 0
Given = IsGiven call_rules (λ c. c.next) ServedGiven AtomGiven

-- the numbers of calls that are on their way in each state that a machine comes to
pub calls_given : (table : List Class) (act : Acting) (seats : List Seat) (events : List Event) →
    CallsGiven (net_of calls (reached table act seats events))
calls_given table act seats =
    reached_given calls call_rules (λ c. c.next) ServedGiven AtomGiven CallsAreKept CallsHold
    (λ S kept. kept.hold) calls_given_keep table act (step_keeps table act)
    (step_moves table act) seats (opening_keeps table seats) ((λ peer o. absurd (cc (o))), tt)
    (λ all s. ((λ peer o. omega arith), tt))
