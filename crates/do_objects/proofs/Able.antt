-- Invocations can act in every state.
use Rattle.do_behave.specs.declared.act.Act.TheVariants as acts
use Rattle.std.{proofs.Common.{◌≡◌, List, map, arith}, specs.{List.AllByRecursion, Option.IsSome}}
use Rattle.do_base.specs.declared.events.event.Event.{Event}
use Rattle.do_class.specs.{Class.Class, Table.method_at}
use Rattle.do_behave.specs.{Answers.HasLocals, declared.act.Act.Act}
use Rattle.do_behave.specs.declared.invocation.Invocation.{Invocation}
use Rattle.do_machine.specs.{declared.{node.Node.Node, state.{Seat.Seat, State.State}}, Step.step}
use Rattle.do_machine.specs.{World.{by_port, opening}, run.Run.Acting}
use Rattle.do_facts.proofs.{OpeningAsNet.opened, methods.FewArguments.takes_few}
use Rattle.do_objects.specs.{CanAct.{AllCanAct, CanAct, KeepsLocals}, OwnClass.AllSound}
use Rattle.do_objects.{specs.Reached.reached, proofs.Known.{begun_locals, has_method, HoldsAfter}}
use Rattle.do_objects.proofs.{Known.{HoldsBegun, Known}, Sound.{after_keeps, opens_sound}}
use Rattle.do_objects.proofs.{Sound.stays_sound, Steps.before_of, Whole.{known_of, whole_of}}

module _ (table : List Class) (act : Acting) (fed : KeepsLocals table act) where
  -- the table has the method, and there are 16 locals
  abbrev InTable : Known
  InTable method count = IsSome (method_at table method) × (count ≡ 16)

  -- an invocation begins so
  begins_in : HoldsBegun InTable table
  begins_in m values signed few = (
    has_method table m.id m.signature signed,
    begun_locals values
        (omega (arith, few, takes_few table fed.signatures m.id m.signature signed)),
  )

  -- and is so after an act
  after_in : (i : Invocation) (a : Act) → HasLocals a → HoldsAfter InTable i a
  after_in i (acts.Step pc locals handler writes) sixteen = λ h. (h.0, sixteen)
  after_in i _ sixteen = λ h. h

-- invocations can still act after an event
pub still_can : (table : List Class) (act : Acting) (S : State) (event : Event) →
    KeepsLocals table act → AllSound S → AllCanAct table S →
    AllCanAct table (step table act S event).state
still_can table act S event fed s can = record {
  each = λ port m h.
      let W = InTable table act fed in
      let was = before_of table act S W (begins_in table act fed)
      (λ i slots. after_in table act fed i (act table i slots) (fed.steps i slots)) event port m h
      in
      known_of W m
      (was.2.whole (whole_of W was.0 (can.each port was.0 was.1) (s.each port was.0 was.1)));
}

-- there are no invocations as a machine opens
pub opens_able : (table : List Class) (seats : List Seat) → AllCanAct table (opening table seats)
opens_able table seats = record {
  each = opened table (map (λ s. s.node) (by_port seats))
      (λ p (n : Node). AllByRecursion (CanAct table) n.stack) (λ s. tt) (by_port seats);
}

-- they can act in every state that is reached
pub reached_able : (table : List Class) (act : Acting) (seats : List Seat)
    (events : List Event) → KeepsLocals table act →
    AllCanAct table (reached table act seats events)
reached_able table act seats events fed =
    (after_keeps table act (λ S. AllSound S × AllCanAct table S)
    (λ S event h. (stays_sound table act S event h.0, still_can table act S event fed h.0 h.1))
    (opening table seats) events (opens_sound table seats, opens_able table seats)).1
