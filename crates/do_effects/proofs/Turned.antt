-- The top invocation changed, as the definitions of a run say it and as a node's own state does it.
use Rattle.std.proofs.Common.{◌≡◌, ℕ, List, [], ◌∷◌, ap, sym}
use Rattle.do_base.specs.declared.values.value.Value.{Value}
use Rattle.do_behave.specs.{Changes.meaning, InPlace.after_act}
use Rattle.do_behave.specs.declared.change.Change.TheVariants.{Local}
use Rattle.do_behave.specs.declared.invocation.Invocation.{Invocation}
use Rattle.do_machine.specs.{declared.node.Node.Node, Context.RunContext, run.Changes.goes_on}
use Rattle.do_machine.specs.run.{Delivery.with_top, Fresh.with_stack}
use Rattle.do_stack.specs.Waiting.{with_top as changed_first}
use Rattle.do_effects.specs.Plans.{IsRun, IsRunning, top_changed}

-- a run's top invocation, changed
pub turned : (n : Node) (r : RunContext) (f : Invocation → Invocation) → IsRun n r →
    with_top r (f r.top) ≡ top_changed f n
turned n r f run = λ j. with_stack (changed_first f (sym run.stack j)) (run.node j)

-- a value goes to a local of the top invocation, which runs
pub local_changed : (stack : List Invocation) (into pc : ℕ) (value : Value) → IsRunning stack →
    changed_first (λ i. (after_act (meaning i (Local into value pc)) i []).inv) stack
    ≡ changed_first (goes_on into value pc) stack
local_changed [] into pc value runs = absurd runs
local_changed (top ∷ below) into pc value runs =
    ap (λ state. record (goes_on into value pc top) { state = state } ∷ below) runs
