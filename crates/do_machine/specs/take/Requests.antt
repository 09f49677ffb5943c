-- A message of a peer: the method that it invokes, or why it is refused.
use Rattle.do_machine.specs.declared.item.Item.TheVariants as items
use Rattle.do_behave.specs.declared.invocation.Reason.TheVariants as reasons
use Rattle.do_base.specs.declared.events.shown.Shown.TheVariants as shows
use Rattle.std.specs.Prelude.{Err, List, Ok, Result, not, ℕ}
use Rattle.do_base.specs.{values.Kinds.number, declared.values.value.Value.Value}
use Rattle.do_base.specs.declared.events.exception.Exc.{Exc, TheVariants.{Deep, NotUnderstood}}
use Rattle.do_base.specs.declared.events.exception.Exc.TheVariants.{NotVended, TypeFault}
use Rattle.do_class.specs.declared.ids.MethodId.{MethodId}
use Rattle.do_sig.specs.Calls.{args_fit}
use Rattle.do_behave.specs.declared.invocation.Reason.{Reason}
use Rattle.do_machine.specs.declared.{item.Message.Message, node.Node.Node, state.Effect.Effect}
use Rattle.do_machine.specs.{Chain.{when◌then◌, ◌>>=◌, ◌>>◌, ◌otherwise◌}, Effect.{only, queueing}}
use Rattle.do_machine.specs.{Effect.showing, Context.{Context, method_for, own_class}, State.own}
use Rattle.do_machine.specs.run.Fresh.{fresh, is_full, pushed}

-- the method that a message invokes, or why it is refused: the first rule that applies decides
abbrev pub admission : Context → ℕ → Message → List Value → Result MethodId Exc
admission c from m values = do
  when not (c.around.entry from m.target) then Err NotVended
  f ← method_for c.table (own_class c.node m.target) m.selector otherwise Err NotUnderstood
  when not (args_fit f.signature values) then Err TypeFault
  when is_full c.node then Err Deep
  Ok f.id

-- a call that is refused goes back as an exception, and of a oneway message that is shown
abbrev pub refusing : Exc → Reason → Node → Effect
refusing e (reasons.Call peer number) n = queueing peer (items.Raised number e) n
refusing e _ n = showing (shows.Raise e) n

-- a message is refused at once, or invokes its method
abbrev pub request : Context → ℕ → Reason → Message → List Value → Node → Effect
request c from reason m values n =
    elim (admission c from m values) [
      | Err e ↦ refusing e reason n
      | Ok method ↦ only (pushed (fresh (own c.node m.target) method reason values) n)
    ]
