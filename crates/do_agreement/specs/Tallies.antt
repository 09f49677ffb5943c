-- When a network tallies with a state of the machine.
use Rattle.std.specs.Prelude.{List, ℕ}
use Rattle.do_class.specs.Class.{Class}
use Rattle.do_machine.specs.{declared.state.{Effect.Effect, State.State}, held.Leaving.leaving}
use Rattle.do_network.specs.{Counting.counted, Net.Net, Own.{Own, is_counted}, fits.Notes.Note}
use Rattle.do_agreement.specs.{CountsFit.{CountsFit, none_closes}, Shows.Shows}

-- A network has the nodes and the queues of a state, and its counts, links and channels fit
pub record Tallies (table : List Class) (N : Net) (S : State) : Type 0 where
  pub under_way : ℕ → ℕ → List Note
  pub counts : CountsFit table N under_way none_closes
  pub shows : Shows N under_way S

-- what a node leaves by its counts after an effect
abbrev pub left_after : Own → Effect → Effect
left_after p e = let q = counted p e in leaving (is_counted q) q.node
