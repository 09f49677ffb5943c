-- What a run, a start, a time-out and a take leave and send can be carried, and how far they raise
-- the numbers of their node.
use Rattle.do_facts.specs.nodes.Cause as cause
use Rattle.std.{proofs.Common.{◌≡◌, ℕ, true, List, [], refl}, specs.Prelude.{None, Option, Some}}
use Rattle.do_base.specs.declared.events.exception.Exc.TheVariants.{TimedOut}
use Rattle.do_base.specs.declared.values.value.Value.{Value}
use Rattle.do_class.specs.Class.{Class}
use Rattle.do_machine.specs.{declared.{item.Item.Item, state.Effect.Effect}, Context.Context}
use Rattle.do_machine.specs.{Start.start_effect, State.is_open, ends.TimeOut.time_out}
use Rattle.do_machine.specs.{run.Run.{Acting, run_effect}, take.Take.take_effect}
use Rattle.do_facts.{specs.nodes.{Cause.Cause, Moves.Wrote}, proofs.walk.Possible.IfAny}
use Rattle.do_facts.proofs.nodes.{Judges.{judge_of, unasked}, Ruled.run_wrote, TakeWalks.by_take}
use Rattle.do_facts.proofs.nodes.{RunWalks.{IfDoes, by_run}, Starting.{by_start, by_time_out}}
use Rattle.do_limits.specs.{Sendable.AreSendable, SendableActs.KeepsSendable}
use Rattle.do_limits.specs.SendableStates.{ItemIsReadable}
use Rattle.do_limits.proofs.{Effects.EffectIsSendable, Senders.ContextIsSendable}
use Rattle.do_limits.proofs.{Signatures.HasMethods, runs.Verdicts.textless, moves.Atoms.item_comes}
use Rattle.do_limits.proofs.moves.{Effects.does_sendable, Packets.{IsGiven, JudgeIsSendable}}
use Rattle.do_limits.proofs.numbers.MovesRise.{Rises, by_moves}

-- an effect leaves and sends only what a message can carry, and raises numbers no further
abbrev pub IsCarried : Context → Effect → Type 0
IsCarried c e = EffectIsSendable c.table c.node.port e × Rises c.node e.node

-- an effect that is moves and takes nothing, where there is one
carried_if : (act : Acting) (c : Context) (why : Cause) →
    JudgeIsSendable (judge_of act c why) → (written : List Wrote) (found : Option Effect) →
    IfDoes (judge_of act c why) written found → IfAny (IsCarried c) found
carried_if act c why ok written None d = tt
carried_if act c why ok written (Some e) d =
    let j = judge_of act c why in
    (does_sendable j ok e d tt, by_moves j c.table c.node.port tt d)

-- what gives no values keeps to those that a message can carry
unasked_keeps : (table : List Class) → KeepsSendable table unasked
unasked_keeps table i slots locals sixteen seen = (tt, (tt, (tt, textless TimedOut refl)))

module _ (c : Context) (few : HasMethods c.table) (ok : ContextIsSendable c) where
  -- what effects that ask for no behaviour are judged by
  judged : (why : Cause) → IsGiven why → JudgeIsSendable (judge_of unasked c why)
  judged why given = record {
    methods = few;
    acts = unasked_keeps c.table;
    context = ok;
    given = given;
  }

  -- a run
  pub run_carried : (act : Acting) → KeepsSendable c.table act →
      IfAny (IsCarried c) (run_effect act c)
  run_carried act keeps =
      let j = judge_of act c cause.Run in
      carried_if act c cause.Run
      (record { methods = few; acts = keeps; context = ok; given = tt })
      (run_wrote j c.node.stack) (run_effect act c) (by_run j)

  -- a start
  pub start_carried : (selector : List ℕ) (values : List Value) → AreSendable values →
      IfAny (IsCarried c) (start_effect c.table selector values c.node)
  start_carried selector values h =
      let why = cause.Start selector values in
      carried_if unasked c why (judged why h) [] (start_effect c.table selector values c.node)
      (by_start (judge_of unasked c why) selector values refl)

  -- a time-out
  pub time_out_carried : IfAny (IsCarried c) (time_out c.node)
  time_out_carried =
      carried_if unasked c cause.TimeOut (judged cause.TimeOut tt) [] (time_out c.node)
      (by_time_out (judge_of unasked c cause.TimeOut) refl)

  -- a take
  pub take_carried : (from : ℕ) (item : Item) → is_open c.node from ≡ true →
      ItemIsReadable c.table from c.node.port item → IsCarried c (take_effect c from item)
  take_carried from item ends h =
      let why = cause.Take from item in
      let j = judge_of unasked c why in
      let d = by_take j from ends item refl in
      let come = item_comes c.table c.node.port from item h in (
        does_sendable j (judged why tt) (take_effect c from item) d come,
        by_moves j c.table c.node.port come d,
      )
