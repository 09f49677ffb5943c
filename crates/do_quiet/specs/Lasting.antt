-- Lends that last over a run.
use Rattle.std.specs.Prelude.{List, Some, [], true, ℕ, ◌∷◌, ◌≡◌}
use Rattle.do_base.specs.declared.events.event.Event.{Event}
use Rattle.do_class.specs.Class.{Class}
use Rattle.do_machine.specs.{declared.{node.{Lend.Lend, Node.Node}, state.State.State}, Lists.IsIn}
use Rattle.do_machine.specs.{State.{is_known, node}, Step.step, run.Run.Acting}
use Rattle.do_facts.specs.links.Lasting.{TakesNotice}

-- the node of a port lends this
pub record IsLent (S : State) (port : ℕ) (l : Lend) : Type 0 where
  pub lender : Node
  pub here : node S port ≡ Some lender
  pub lent : IsIn lender.lent l

-- it lends this, and holds or asks for the object
pub record IsKeptWhileLent (S : State) (port : ℕ) (l : Lend) : Type 0 where
  pub lender : Node
  pub here : node S port ≡ Some lender
  pub lent : IsIn lender.lent l
  pub known : is_known lender l.object ≡ true

-- by none of these events, one after another, the node of a port takes the borrower's notice that
-- the lend is over
abbrev pub NoNotice : List Class → Acting → State → ℕ → Lend → List Event → Type 0
NoNotice table act S port l [] = Unit {0}
NoNotice table act S port l (event ∷ events) =
    (TakesNotice S event port l → ⊥)
    × NoNotice table act (step table act S event).state port l events
