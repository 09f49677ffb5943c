-- What an event writes to slots.
use Rattle.do_base.specs.declared.events.event.Event.TheVariants as events
use Rattle.std.specs.Prelude.{List, [], if◌then◌else◌, option_map, unwrap_or, ℕ, ◌==◌, ◌∷◌}
use Rattle.do_base.specs.{names.Names.ObjectName, declared.events.event.Event.Event}
use Rattle.do_class.specs.Class.{Class}
use Rattle.do_behave.specs.declared.act.{Act.{Act, TheVariants.Step}, Write.Write}
use Rattle.do_behave.specs.declared.invocation.{Invocation.Invocation, InvState.InvState}
use Rattle.do_behave.specs.declared.invocation.InvState.TheVariants.{Running}
use Rattle.do_machine.specs.{declared.{node.Node.Node, state.State.State}, State.{node, stored}}
use Rattle.do_machine.specs.run.Run.{Acting, slots_seen}

-- the act that an invocation does next at a node
abbrev pub act_at : List Class → Acting → Node → Invocation → Act
act_at table act n i = act table i (slots_seen (stored i.object.serial n.heap))

-- the writes of an act: only a step has any
abbrev pub writes_of : Act → List Write
writes_of (Step pc locals handler writes) = writes
writes_of _ = []

-- the writes of an invocation that may run: one that waits, or has an answer to use, does no act
abbrev pub writes_in : InvState → Act → List Write
writes_in Running a = writes_of a
writes_in _ a = []

-- what a run of a node writes to its object of a serial: its top invocation writes to its own
abbrev pub run_writes : List Class → Acting → Node → List Invocation → ℕ → List Write
run_writes table act n [] serial = []
run_writes table act n (i ∷ below) serial =
    if i.object.serial == serial then writes_in i.state (act_at table act n i) else []

-- what an event writes to an object: only a run of its home writes anything
abbrev pub writes_to : List Class → Acting → State → Event → ObjectName → List Write
writes_to table act S (events.Run port) o =
    if port == o.node
    then unwrap_or (option_map (λ n. run_writes table act n n.stack o.serial) (node S port)) []
    else []
writes_to table act S _ o = []
