-- Behaviours and starts that give only values that a message can carry.
use Rattle.std.specs.{Prelude.{List, length, ◌≡◌}, List.AllByRecursion}
use Rattle.do_base.specs.declared.events.event.Event.{Event, TheVariants.Start}
use Rattle.do_base.specs.declared.values.value.Value.{Value}
use Rattle.do_class.specs.Class.{Class}
use Rattle.do_behave.specs.{Answers.{HasLocals, values_of}, declared.act.Act.{Act, TheVariants.New}}
use Rattle.do_behave.specs.declared.{act.Act.TheVariants.Raise, invocation.Invocation.Invocation}
use Rattle.do_machine.specs.run.Run.{Acting}
use Rattle.do_limits.specs.Sendable.{AreSendable, IsOfTable, IsSendableExc}

-- the exception of an act, if it raises one
abbrev pub RaisesSendable : Act → Type 0
RaisesSendable (Raise e) = IsSendableExc e
RaisesSendable _ = Unit {0}

-- the class of an act, if it makes an object
abbrev pub MakesOfTable : List Class → Act → Type 0
MakesOfTable table (New class into pc) = IsOfTable table class
MakesOfTable table _ = Unit {0}

-- the values of an act, its sixteen locals, its class, and its exception
abbrev pub ActIsSendable : List Class → Act → Type 0
ActIsSendable table a =
    AreSendable (values_of a) × (HasLocals a × (MakesOfTable table a × RaisesSendable a))

-- where sixteen locals and the slots are such values, so are those of each act
abbrev pub KeepsSendable : List Class → Acting → Type 0
KeepsSendable table act = (i : Invocation) (slots : List Value) → AreSendable i.locals →
    length i.locals ≡ 16 → AreSendable slots → ActIsSendable table (act table i slots)

-- the values that an event gives
abbrev pub StartsSendable : Event → Type 0
StartsSendable (Start port selector values) = AreSendable values
StartsSendable _ = Unit {0}

-- the values that events give
abbrev pub AllStartSendable : List Event → Type 0
AllStartSendable events = AllByRecursion StartsSendable events
