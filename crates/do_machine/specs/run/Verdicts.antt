-- The effect of each verdict on the top invocation.
use Rattle.do_machine.specs.declared.item.Item.TheVariants as items
use Rattle.do_behave.specs.declared.invocation.Reason.TheVariants as reasons
use Rattle.do_machine.specs.declared.verdict.Request.TheVariants as requests
use Rattle.do_base.specs.declared.events.shown.Shown.TheVariants as shows
use Rattle.do_behave.specs.declared.invocation.Waited.TheVariants as waiteds
use Rattle.std.specs.Prelude.{[], ℕ, ◌∷◌}
use Rattle.do_base.specs.{values.Kinds.number, declared.values.value.Value.TheVariants.{Nil, Obj}}
use Rattle.do_behave.specs.declared.invocation.{InvState.InvState, Waited.Waited}
use Rattle.do_behave.specs.declared.invocation.Answer.TheVariants.{Given}
use Rattle.do_behave.specs.declared.invocation.InvState.TheVariants.{Below, Waits}
use Rattle.do_machine.specs.declared.{node.Node.Node, state.Effect.Effect, verdict.Request.Request}
use Rattle.do_machine.specs.declared.verdict.Verdict.{Verdict, TheVariants.{Asks, Begins, Fails}}
use Rattle.do_machine.specs.declared.verdict.Verdict.TheVariants.{Goes, Makes, Returns, Says, Steps}
use Rattle.do_machine.specs.declared.verdict.Verdict.TheVariants.{Tells, Uses, Vends}
use Rattle.do_machine.specs.{Effect.{only, queueing, showing}, Context.RunContext, State.own}
use Rattle.do_machine.specs.{take.Requests.request, run.Changes.{goes_on, goes_to, stands}}
use Rattle.do_machine.specs.run.Changes.{steps_to, uses, uses_number, with_slots}
use Rattle.do_machine.specs.run.Delivery.{delivery, failing, with_top}
use Rattle.do_machine.specs.{run.Fresh.{blank, fresh, pushed, with_objects}, lend.Lending.posting}

-- what an invocation waits for, having asked so
abbrev pub awaited_after : Request → Waited
awaited_after requests.Root = waiteds.Root
awaited_after (requests.Call method m) = waiteds.Method method

-- the state of an invocation that asked a peer
abbrev pub waits_for : Node → ℕ → Request → InvState
waits_for n peer request =
    Waits (record { node = n.port; number = n.next_call }) peer (awaited_after request)

-- a request goes to a peer, under a number
abbrev pub requesting : ℕ → ℕ → Request → Node → Effect
requesting peer number requests.Root n = queueing peer (items.RootAsk number) n
requesting peer number (requests.Call method m) n = posting peer m.packet (items.Call number m) n

-- the effect of a verdict
abbrev pub effect_of : RunContext → Verdict → Effect
effect_of r (Goes into value pc) = only (with_top r (goes_on into value pc r.top))
effect_of r (Uses result outs) = only (with_top r (uses result outs r.top))
effect_of r (Steps pc locals handler writes) =
    only (with_slots r.top.object.serial writes (with_top r (steps_to pc locals handler r.top)))
effect_of r (Makes class into pc) =
    let made = own r.context.node r.context.node.next_serial in
    only (with_objects (blank r.context.table class ∷ [])
    (with_top r (goes_on into (Obj made) pc r.top)))
effect_of r (Vends root pc) = only (record (with_top r (goes_to pc r.top)) { root = root })
effect_of r (Says value pc) = showing (shows.Say value) (with_top r (goes_to pc r.top))
effect_of r (Asks peer request into outs pc) =
    let state = waits_for r.context.node peer request in
    requesting peer r.context.node.next_call request
    (uses_number (with_top r (stands pc into outs state r.top)))
effect_of r (Begins o method values into outs pc) =
    only (pushed (fresh o method reasons.Local values)
    (with_top r (stands pc into outs Below r.top)))
effect_of r (Tells peer m into pc) =
    posting peer m.packet (items.Oneway m) (with_top r (goes_on into Nil pc r.top))
effect_of r (Returns result outs) = delivery r (Given result outs) r.top.reason
effect_of r (Fails e) = failing r e r.top.handler
