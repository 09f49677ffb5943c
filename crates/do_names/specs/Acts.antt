-- The acts of the methods.
use Rattle.std.specs.Prelude.{ℕ, List, Option}
use Rattle.do_base.specs.declared.values.value.Value.{Value}
use Rattle.do_class.specs.Class.{Class}
use Rattle.do_behave.specs.declared.{invocation.Invocation.Invocation, act.Act.Act}
use Rattle.do_native_acts.specs.Places.{by_selector, does_call, in_two}
use Rattle.do_names.specs.{Core.{from_slots, to_slots}, Calls.{call_in, does}}

-- the first act of a method: all that it does but returning
abbrev pub first : List ℕ → Invocation → List Value → Option Act
first selector inv slots = does_call from_slots to_slots does (call_in selector inv) inv slots

-- the act of a method of a server of names
abbrev pub names_act : List Class → Invocation → List Value → Act
names_act table inv slots =
    by_selector table inv (λ selector. in_two inv (first selector inv slots))
