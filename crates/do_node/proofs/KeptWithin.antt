-- A schedule that was read over a world that was read stays within what frames can spell and nodes
-- can count.
use Rattle.do_given.specs.declared.status.Status.TheVariants as answer
use Rattle.std.proofs.Common.{◌≡◌, ◌++◌, ◌<◌, ◌≤◌, ℕ, List, None, Option, Some, Result, Ok, Err, ap}
use Rattle.std.proofs.Common.{arith, inl, inr, length, length-append, refl, subst, sym}
use Rattle.std.specs.{List.{AllByRecursion, flat_map}, Prelude.{IfSome, OnOk}}
use Rattle.do_base.specs.declared.{events.event.Event.Event, outside.shelf.NamedFile.NamedFile}
use Rattle.do_cli.specs.declared.command.Command.{Command, TheVariants.{Leaks, Make, Replay, Weave}}
use Rattle.do_facts.proofs.EachOfLists.{each_former}
use Rattle.do_given.specs.{Parts.behaviour_of, Reading.{GivesScheduled, Stops}}
use Rattle.do_given.specs.declared.{scheduled.Scheduled.Scheduled, status.Status.Status}
use Rattle.do_limits.{proofs.values.Starting.lines_start, specs.SendableActs.StartsSendable}
use Rattle.do_machine.specs.check.Blocks.{events_of}
use Rattle.do_native.specs.Acts.{native_act}
use Rattle.do_sched.specs.{Good.IsLine, Schedule.most_steps, Spelling.steps_of}
use Rattle.do_sched.specs.declared.line.Line.{Line}
use Rattle.do_within.proofs.schedules.{Few.{few_events, schedules_spelled}, Numbers.numbers_small}
use Rattle.do_within.proofs.schedules.Walk.{from_opening}
use Rattle.do_world.specs.{Sound.IsSound, declared.world.World.World}
use Rattle.do_node.specs.{Answering.answer_of, Call.Refuses}
use Rattle.do_node.specs.Within.{GivesWithin, IsBounded, RanWithin, StaysWithin, WhereRan}
use Rattle.do_node.proofs.{RefusalsTold.stops_not_ok, ServedRead.sound_keeps}

-- lines that may stand in a file stay within this over a world that was read
stays_within : (w : World) → IsSound w → (lines : List Line) → AllByRecursion IsLine lines →
    steps_of lines ≤ most_steps → StaysWithin w lines
stays_within w sound lines good few = record {
  spelled = schedules_spelled w.table (native_act (behaviour_of w)) w.nodes lines sound.opens
      (sound_keeps w sound) good few;
  small = λ before after parts.
      numbers_small w.table (native_act (behaviour_of w)) w.nodes sound.opens (sound_keeps w sound)
      before
      (each_former StartsSendable before after
      (subst (AllByRecursion StartsSendable) (sym parts) (lines_start lines good)))
      (fewer before after (flat_map events_of lines) parts (few_events lines few));
}
  where
    fewer : (before after all : List Event) → before ++ after ≡ all →
        length all < 70368744177664 → length before < 70368744177664
    fewer before after all parts few =
        let e = length-append before after in
        let k = ap (λ (es : List Event). length es) parts in
        omega (arith, e, k, few)

-- so does a schedule that was given
pub given_within : (told : Option (List NamedFile)) (word name : List ℕ) (given : Scheduled) →
    IsSound given.world → GivesScheduled told word name given → GivesWithin told word name
given_within told word name given sound gives = record {
  given = given;
  gives = gives;
  within = stays_within given.world sound given.lines gives.says.is_read.good
      gives.says.is_read.few;
}

-- so does all that is done over a world that was read
pub world_bounded : (w : World) → IsSound w → IsBounded w
world_bounded w sound =
    let act = native_act (behaviour_of w) in
    let keeps = sound_keeps w sound in
    record {
      spelled = λ events starts few.
          (from_opening w.table act w.nodes sound.opens keeps events starts few).0;
      small = λ events starts few.
          numbers_small w.table act w.nodes sound.opens keeps events starts few;
    }

-- ---- what an answer tells of it

module _ (holds nothing : Type 0) where
  -- what holds is told by any answer
  any_tells : holds → (status : Status) → WhereRan holds nothing status
  any_tells h answer.Ok = h
  any_tells h answer.WriteFault = h
  any_tells h answer.Memory = inr h
  any_tells h _ = tt

  -- so it is of what came of writing
  pub ran_tells : holds → (result : Result Unit Status) →
      WhereRan holds nothing (answer_of result)
  ran_tells h (Ok done) = h
  ran_tells h (Err status) = any_tells h status

-- what holds is told where all went well
pub ok_tells : {T : Type 0} (holds : Type 0) → holds → (result : Result T Status) →
    OnOk result holds
ok_tells holds h (Ok x) = h
ok_tells holds h (Err status) = tt

-- where nothing was given, nothing was done
pub stopped_tells : (holds unread nothing : Type 0) (told : Option (List NamedFile))
    (command : Command) (status : Status) → Stops unread ⊥ (Refuses told command) status →
    nothing → WhereRan holds nothing status
stopped_tells holds unread nothing told command answer.Ok stopped none =
    absurd (stops_not_ok unread ⊥ told command answer.Ok stopped refl)
stopped_tells holds unread nothing told command answer.WriteFault stopped none = absurd stopped
stopped_tells holds unread nothing told command answer.Memory stopped none = inl none
stopped_tells holds unread nothing told command _ stopped none = tt

-- memory that ran out before the command was known tells nothing
pub memory_within : (told : Option (List NamedFile)) (old : Option (List ℕ))
    (command : Option Command) → IfSome command (RanWithin told old old answer.Memory)
memory_within told old None = tt
memory_within told old (Some (Replay world schedule)) = inl refl
memory_within told old (Some (Leaks world schedule)) = inl refl
memory_within told old (Some (Weave world names)) = inl refl
memory_within told old (Some (Make number count)) = inl refl
memory_within told old (Some _) = tt
