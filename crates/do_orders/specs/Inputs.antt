-- What the inputs of a record are, as moves of their node.
use Rattle.do_machine.specs.declared.item.Item.TheVariants as items
use Rattle.std.specs.Prelude.{None, Option, Some, [], if◌then◌else◌, ℕ, ◌≡◌}
use Rattle.do_machine.specs.{Context.{Context, Surroundings, around}, Commit.moved}
use Rattle.do_machine.specs.{Start.start_effect, State.{is_open, node}, declared.item.Item.Item}
use Rattle.do_machine.specs.declared.{node.Node.Node, state.{Effect.Effect, State.State}}
use Rattle.do_machine.specs.{declared.state.Stepped.Stepped, ends.Closing.closing}
use Rattle.do_machine.specs.{run.Run.run_effect, take.Take.{can_take, take_effect}}
use Rattle.do_record.specs.declared.parts.RecordLine.{RecordLine}
use Rattle.do_record.specs.declared.parts.RecordLine.TheVariants.{Close, Ended, Run, Start, Take}
use Rattle.do_weave.specs.Rules.{Rules}
use Rattle.do_orders.specs.Moves.{Source, Stands, taken_off, Source.{First, Still, There}}

-- what an input has of the queues to its node, where this item is the one that it takes
abbrev pub source_of : RecordLine → Item → Source
source_of (Take from) item = First from item
source_of (Ended peer) item = There peer
source_of _ item = Still

-- a node with what it knows of the rest of the machine
abbrev pub knowing : Rules → Surroundings → Node → Context
knowing R known n = record { table = R.table; around = known; node = n }

-- the effect of an input at a node that knows this of the rest of the machine, where the input is
-- enabled; an end without notice is the take of an end that names nothing
abbrev pub effect_by : Rules → RecordLine → Item → Surroundings → Node → Option Effect
effect_by R (Start selector values) item known n = start_effect R.table selector values n
effect_by R Run item known n = run_effect R.act (knowing R known n)
effect_by R (Take from) item known n =
    if can_take from n then Some (take_effect (knowing R known n) from item) else None
effect_by R (Close peer) item known n = if is_open n peer then Some (closing peer n) else None
effect_by R (Ended peer) item known n =
    if can_take peer n then Some (take_effect (knowing R known n) peer (items.End [])) else None

-- An input comes to this by a move: its node and what it takes are there, what the node then knows
-- of the rest decides its effect, and the node frees and leaves what it does without
pub record ByMove (R : Rules) (S : State) (port : ℕ) (input : RecordLine) (a : Stepped) : Type 0
  where
    pub doer : Node
    pub item : Item
    pub effect : Effect
    pub here : node S port ≡ Some doer
    pub stands : Stands port (source_of input item) S
    pub decided : effect_by R input item
        (around (taken_off port (source_of input item) S) doer) doer ≡ Some effect
    pub comes : a ≡ moved port (taken_off port (source_of input item) S) effect
