-- What a plan does, and when it can be carried out.
use Rattle.do_machine.specs.declared.item.Item.TheVariants as items
use Rattle.do_machine.specs.declared.verdict.Request.TheVariants as requests
use Rattle.do_machine.specs.declared.verdict.Verdict.TheVariants as verdicts
use Rattle.do_rules.specs.declared.run.delivery.Delivery.TheVariants as deliveries
use Rattle.std.specs.Prelude.{List, [], length, ◌+◌, ◌-◌, ◌<◌, ◌≡◌, ◌≤◌, ◌^◌, ◌∷◌, ℕ, false, true}
use Rattle.do_base.specs.declared.values.value.Value.{Value, TheVariants.Obj}
use Rattle.do_behave.specs.declared.invocation.Invocation.{Invocation}
use Rattle.do_behave.specs.declared.invocation.InvState.TheVariants.{Below, Running}
use Rattle.do_machine.specs.declared.{item.Item.Item, node.Node.Node, state.Effect.Effect}
use Rattle.do_machine.specs.{declared.verdict.Request.Request, Context.RunContext, Effect.only}
use Rattle.do_machine.specs.{State.{is_open, own}, held.Refers.answer_values, run.Changes.goes_on}
use Rattle.do_machine.specs.run.{Changes.stands, Delivery.with_top, Fresh.{pushed, with_objects}}
use Rattle.do_machine.specs.{run.{Fresh.with_stack, Verdicts.effect_of}, take.Take.is_waiting}
use Rattle.do_part.specs.{Names.{AreStored, sizes_of, values_of}, Rooting.root_of}
use Rattle.do_rules.specs.{Delivery.delivered, declared.run.delivery.Delivery.Delivery}
use Rattle.do_stack.specs.{Uses.invocation_values, Waiting.with_top as changed_first}
use Rattle.do_effects.specs.{Doing.{doing, does}, Room.{HasRoom, Needs, to_send, to_tell}}
use Rattle.do_effects.specs.{Sends.{CanSend, names_counted}, Tidy.IsTidy}
use Rattle.do_effects.specs.declared.{changing.Core.Core, plan.Plan.Plan}
use Rattle.do_effects.specs.declared.plan.Plan.TheVariants.{Asks, Begins, Delivers, Goes, Makes}
use Rattle.do_effects.specs.declared.plan.Plan.TheVariants.{Says, Tells, Uses, Vends}

-- ---- what a plan does

-- the node with its top invocation changed
abbrev pub top_changed : (Invocation → Invocation) → Node → Node
top_changed f n = with_stack (changed_first f n.stack) n

-- the invocations below the top one
abbrev pub below : List Invocation → List Invocation
below [] = []
below (top ∷ others) = others

-- the node without its top invocation
abbrev pub top_popped : Node → Node
top_popped n = with_stack (below n.stack) n

-- the top invocation of a node runs, in what it is judged by
pub record IsRun (n : Node) (r : RunContext) : Type 0 where
  pub node : r.context.node ≡ n
  pub stack : n.stack ≡ r.top ∷ r.below

-- What a plan does: the effect of its verdict. An object is made with the slots of the plan, and an
-- invocation begins as it stands there.
abbrev pub plan_effect : RunContext → Plan → Effect
plan_effect r (Goes into value pc) = effect_of r (verdicts.Goes into value pc)
plan_effect r (Uses value outs) = effect_of r (verdicts.Uses value outs)
plan_effect r (Makes class slots into pc) =
    let made = own r.context.node r.context.node.next_serial in
    only (with_objects (record { class = class; slots = slots } ∷ [])
    (with_top r (goes_on into (Obj made) pc r.top)))
plan_effect r (Vends root pc) = effect_of r (verdicts.Vends root pc)
plan_effect r (Says value pc) = effect_of r (verdicts.Says value pc)
plan_effect r (Asks peer request into outs pc) =
    effect_of r (verdicts.Asks peer request into outs pc)
plan_effect r (Begins i into outs pc) =
    only (pushed i (with_top r (stands pc into outs Below r.top)))
plan_effect r (Tells peer m into pc) = effect_of r (verdicts.Tells peer m into pc)
plan_effect r (Delivers delivery) = delivered r delivery

-- a core did what an effect is of each run of its top invocation
abbrev pub Did : (RunContext → Effect) → Core → Core → Type 0
Did e before after = (r : RunContext) → IsRun before.part.own.node r
    → doing after ≡ does (doing before) (e r)

-- ---- when it can be carried out

-- what is asked of a peer under a number, as an item
abbrev pub requested : ℕ → Request → Item
requested number requests.Root = items.RootAsk number
requested number (requests.Call method m) = items.Call number m

-- an item can be sent to a peer
pub record CanSendTo (n : Node) (peer : ℕ) (item : Item) : Type 0 where
  pub open_end : is_open n peer ≡ true
  pub names : CanSend n item
  pub tokens : n.next_token + names_counted item ≤ 2 ^ 62

-- so many names alone, which the node keeps
abbrev pub to_keep : ℕ → Needs
to_keep many =
    record { objects = 0; invocations = 0; names = many; entries = 0; waiting = 0 }

-- the values that a delivery gives the node to keep
abbrev pub delivery_values : Delivery → List Value
delivery_values (deliveries.Answers a) = answer_values a
delivery_values _ = []

-- the values that a plan gives the node to keep
abbrev pub plan_values : Plan → List Value
plan_values (Goes into value pc) = value ∷ []
plan_values (Uses value outs) = value ∷ outs
plan_values (Makes class slots into pc) = slots
plan_values (Begins i into outs pc) = invocation_values i
plan_values (Delivers delivery) = delivery_values delivery
plan_values _ = []

-- what a delivery takes of room
abbrev pub delivery_needs : Delivery → Needs
delivery_needs (deliveries.Shows line) = to_tell 1
delivery_needs (deliveries.Answers a) =
    record (to_keep (sizes_of (answer_values a))) { invocations = 1 }
delivery_needs (deliveries.Replies peer number packet) = to_send (items.Reply number packet)
delivery_needs (deliveries.Raises peer number e) = to_send (items.Raised number e)
delivery_needs deliveries.Drops = to_tell 0

-- what a plan takes of room
abbrev pub plan_needs : Plan → Needs
plan_needs (Goes into value pc) = to_keep (sizes_of (value ∷ []))
plan_needs (Uses value outs) = to_keep (sizes_of (value ∷ outs))
plan_needs (Makes class slots into pc) = record (to_keep (sizes_of slots + 1)) { objects = 1 }
plan_needs (Vends root pc) = to_keep 1
plan_needs (Says value pc) = to_tell 1
plan_needs (Asks peer request into outs pc) =
    record (to_send (requested 0 request)) { invocations = 1 }
plan_needs (Begins i into outs pc) =
    record (to_keep (sizes_of (invocation_values i))) { invocations = 2 }
plan_needs (Tells peer m into pc) = to_send (items.Oneway m)
plan_needs (Delivers delivery) = delivery_needs delivery

-- the node can deliver an answer
abbrev pub CanDeliver : Node → Delivery → Type 0
CanDeliver n (deliveries.Replies peer number packet) =
    CanSendTo n peer (items.Reply number packet)
CanDeliver n (deliveries.Raises peer number e) = CanSendTo n peer (items.Raised number e)
CanDeliver n _ = Unit {0}

-- the node can do what a plan says
abbrev pub CanDo : Node → Plan → Type 0
CanDo n (Vends root pc) = AreStored n (root_of n.port root)
CanDo n (Asks peer request into outs pc) =
    (n.next_call < 2 ^ 64 - 1) × CanSendTo n peer (requested n.next_call request)
CanDo n (Begins i into outs pc) = (length n.stack < 256) × (is_waiting i.state ≡ false)
CanDo n (Tells peer m into pc) = CanSendTo n peer (items.Oneway m)
CanDo n (Delivers delivery) = CanDeliver n delivery
CanDo n _ = Unit {0}

-- the first of these invocations runs
abbrev pub IsRunning : List Invocation → Type 0
IsRunning [] = ⊥
IsRunning (top ∷ below) = top.state ≡ Running

-- A plan can be carried out: nothing is counted that the node does not keep, the top invocation
-- runs, the own objects that the plan names are stored, and there is room.
pub record CanCarryOut (plan : Plan) (c : Core) : Type 0 where
  pub tidy : IsTidy c.part.own
  pub runs : IsRunning c.part.own.node.stack
  pub values : AreStored c.part.own.node (values_of (plan_values plan))
  pub can : CanDo c.part.own.node plan
  pub room : HasRoom (plan_needs plan) c
