-- Runs, starts, time-outs and ends leave a site within the limits.
use Rattle.do_machine.specs.declared.item.Item.TheVariants as items
use Rattle.do_network.specs.declared.input.Input.TheVariants as inputs
use Rattle.std.{proofs.Common.{List, [], arith, not, subst, sym, ℕ}, specs.Prelude.Option}
use Rattle.do_base.specs.declared.values.value.Value.{Value}
use Rattle.do_class.specs.Class.{Class}
use Rattle.do_sched.specs.Good.{IsPort}
use Rattle.do_machine.specs.{Context.Context, Start.start_effect, State.is_open}
use Rattle.do_machine.specs.{declared.{node.Node.Node, state.Effect.Effect}, ends.Closing.asked_of}
use Rattle.do_machine.specs.{ends.{Closing.{closing, parted}, TimeOut.time_out}, run.Run.Acting}
use Rattle.do_machine.specs.{run.Run.run_effect, take.Take.{can_serve, can_take, take_effect}}
use Rattle.do_facts.proofs.{Chains.first_of, walk.Possible.{IfAny, by_begins, by_giving_up}}
use Rattle.do_facts.proofs.walk.SmallEffects.{by_closing, settled_node}
use Rattle.do_network.specs.{Links.Part, Own.site_context, Site.{Handled, moves, site_step}}
use Rattle.do_network.specs.declared.input.Done.TheVariants.{Moved}
use Rattle.do_limits.specs.{Sendable.AreSendable, SendableActs.KeepsSendable}
use Rattle.do_limits.proofs.moves.Inputs.{IsCarried, run_carried, start_carried, take_carried}
use Rattle.do_limits.{proofs.moves.Inputs.time_out_carried, specs.SendableStates.ItemIsSendable}
use Rattle.do_limits.{specs.SendableStates.NodeIsSendable, proofs.Effects.EffectIsSendable}
use Rattle.do_limits.proofs.{takes.Ends.closes, Senders.ContextIsSendable, Signatures.HasMethods}
use Rattle.do_bounds.proofs.{Rises.{RisesBy, by_one}, Sites.{Came, Keeps, PartIsWithin, by_both}}
use Rattle.do_bounds.proofs.Sites.{judges, moved, moved_if, tested}

-- closing an end raises nothing
pub closing_rises : (peer : ℕ) (n : Node) → RisesBy 0 n (closing peer n).node
closing_rises peer n =
    subst (RisesBy 0 n) (sym (settled_node (asked_of peer n) (parted peer n)))
    (record { call = omega arith; serial = omega arith; token = omega arith })

-- closing an end tells only of lends that are over, and that the end is closed
pub closing_within : (table : List Class) (port peer : ℕ) (n : Node) →
    NodeIsSendable table port n → EffectIsSendable table port (closing peer n)
closing_within table port peer n h =
    let told = by_closing {G = λ m. Unit {0}} {E = ItemIsSendable table port}
    (record { over = λ w m k. k; settles = λ w m o k. tt }) peer n tt tt in
    record { node = closes peer n h; sent = told.sent }

module _ (table : List Class) (few : HasMethods table) (p : Part) (at : IsPort p.own.node.port)
    (h : PartIsWithin table p.own.node.port p) where
  -- its node
  abbrev n : Node
  n = p.own.node

  -- what it is judged by
  abbrev c : Context
  c = site_context table p.own

  -- this is within the limits
  judged : ContextIsSendable c
  judged = judges table n.port at p.own h.own

  -- the site after an input by which things may be made so often
  abbrev Comes : ℕ → Handled → Type 0
  Comes count x = Came table n.port n count x

  -- an effect that is carried, where there is one and numbers rise no further
  steady : (found : Option Effect) → IfAny (IsCarried c) found →
      IfAny (λ e. RisesBy 0 n e.node) found → IfAny (Keeps table n.port n 0) found
  steady found sends same =
      by_both (IsCarried c) (λ e. RisesBy 0 n e.node) (Keeps table n.port n 0)
      (λ e x y. (x.0, y)) found sends same

  -- a run
  pub run_comes : (act : Acting) → KeepsSendable table act →
      Comes 1 (site_step table act p inputs.Run)
  run_comes act keeps =
      let found = run_effect act c in
      let sends = run_carried c few judged act keeps in
      moved_if table n.port 1 p h found
      (by_both (IsCarried c) (IsCarried c) (Keeps table n.port n 1)
      (λ e x y. (x.0, by_one n e.node x.1)) found sends sends)

  -- a start
  pub start_comes : (selector : List ℕ) (values : List Value) → AreSendable values →
      (act : Acting) → Comes 0 (site_step table act p (inputs.Start selector values))
  start_comes selector values fit act =
      let found = start_effect table selector values n in
      moved_if table n.port 0 p h found
      (steady found (start_carried c few judged selector values fit)
      (by_begins (λ e. RisesBy 0 n e.node) table selector values n
      (λ i. record { call = omega arith; serial = omega arith; token = omega arith })))

  -- a time-out
  pub time_out_comes : (act : Acting) → Comes 0 (site_step table act p inputs.Timeout)
  time_out_comes act =
      moved_if table n.port 0 p h (time_out n)
      (steady (time_out n) (time_out_carried c few judged)
      (by_giving_up (λ e. RisesBy 0 n e.node) n (λ call peer what i below.
      record { call = omega arith; serial = omega arith; token = omega arith })))

  -- what closing an end leaves
  closes_so : (peer : ℕ) → Keeps table n.port n 0 (closing peer n)
  closes_so peer = (closing_within table n.port peer n h.own.values, closing_rises peer n)

  -- a close
  pub close_comes : (act : Acting) (peer : ℕ) →
      Comes 0 (site_step table act p (inputs.Close peer))
  close_comes act peer =
      tested table n.port 0 p h (not (is_open n peer)) (moves p (closing peer n))
      (λ ends. moved table n.port n 0 p Moved p.own (closing peer n) h.links h.own.classes
      (closes_so peer))

  -- a connection that ended
  pub end_comes : (act : Acting) (peer : ℕ) →
      Comes 0 (site_step table act p (inputs.Ended peer))
  end_comes act peer =
      let e = take_effect c peer (items.End []) in
      tested table n.port 0 p h (not (can_take peer n)) (moves p e)
      (λ can.
      let ends = first_of (is_open n peer) (can_serve n.stack) can in
      let it = take_carried c few judged peer (items.End []) ends tt in
      moved table n.port n 0 p Moved p.own e h.links h.own.classes (it.0, closing_rises peer n))
