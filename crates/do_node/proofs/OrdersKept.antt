-- What is woven is an order of the records' inputs. Where they contradict there is none, and they
-- are not those of nodes that exchanged their bytes. Where a file is none, it was altered.
use Rattle.do_weave.specs.declared.fault.WeaveFault.TheVariants as weaving
use Rattle.do_sched.specs.declared.fault.SchedFault.TheVariants as sched
use Rattle.std.proofs.Common.{◌≡◌, ◌++◌, ℕ, List, [], ◌∷◌, None, Option, Some, Result, Ok, Err, inl}
use Rattle.std.{proofs.Common.{inr, subst}, specs.Prelude.{IfErr, IfSome}}
use Rattle.do_base.specs.declared.outside.shelf.NamedFile.{NamedFile}
use Rattle.do_cli.specs.declared.command.Command.{Command, TheVariants.Weave}
use Rattle.do_exchanged.proofs.Exchange.{exchanged_done}
use Rattle.do_given.specs.{Parts.behaviour_of, Reading.{GivesWorld, RefusesWorld, Stops}}
use Rattle.do_given.specs.declared.status.Status.{Status}
use Rattle.do_given.specs.declared.status.Status.TheVariants.{BadRecord, Contradiction, Memory}
use Rattle.do_machine.specs.{World.opening, declared.state.Seat.Seat}
use Rattle.do_native.specs.Acts.{native_act}
use Rattle.do_orders.proofs.InputsCommute.{inputs_commute}
use Rattle.do_record.specs.declared.parts.Record.{Record}
use Rattle.do_rewoven.proofs.RecordsBehind.{read_sound}
use Rattle.do_sched.specs.declared.{fault.SchedFault.SchedFault, line.Line.Line}
use Rattle.do_weave.proofs.{Again.threads_apart, Standing.fault_stands, Left.order_of_all}
use Rattle.do_weave.proofs.Orders.{woven_order}
use Rattle.do_weave.specs.{Orders.{CanBeDone, HasOrder, IsReached}, Threads.{blocks_in, threads_of}}
use Rattle.do_weave.specs.{Weaving.woven, declared.fault.WeaveFault.WeaveFault}
use Rattle.do_world.specs.{Sound.IsSound, declared.world.World.World}
use Rattle.do_node.specs.{Answering.answer_of, Orders.{AnswersAltered, HaveNoOrder, HaveOrder}}
use Rattle.do_node.specs.{Orders.TellsAltered, Records.{SayNoRecords, told_of_record}}
use Rattle.do_node.specs.Weaving.{Contradicts, GivesRecords, IsWoven, RefusesWeaving, rules_of}
use Rattle.do_node.{specs.Weaving.{told_of_weaving, world_woven}, proofs.RecordsGiven.files_read}
use Rattle.do_node.proofs.{RecordsGiven.over_world, ServedRead.{sound_keeps, tells_not_served}}

-- what a world's records contradict, from its opening on
fault_over : (w : World) (records : List Record) (fault : WeaveFault) →
    world_woven w records ≡ Err fault →
    woven (rules_of w) (opening w.table w.nodes) records ≡ Err fault
unfolding world_woven
fault_over w records fault e = e

-- a fault of a record is no contradiction
not_told : (index line n : ℕ) (fault : SchedFault) →
    Contradiction index line ≡ told_of_record n fault → ⊥
not_told index line n (sched.BadLine at) e = cc
not_told index line n (sched.TooMany at) e = cc
not_told index line n (sched.NoEnd at) e = cc
not_told index line n sched.Memory e = cc

-- no world is refused so
no_world : (told : Option (List NamedFile)) (word : List ℕ) (index line : ℕ) →
    RefusesWorld told word (Contradiction index line) → ⊥
no_world told word index line (none, inl long) = let e = long.tells in cc
no_world told word index line (none, inr bad) = let e = bad.is_read.tells in cc

-- nor are records
no_records : (told : Option (List NamedFile)) (seats : List Seat) (earlier : List Record)
    (names : List (List ℕ)) (index line : ℕ) →
    SayNoRecords told seats earlier names (Contradiction index line) → ⊥
no_records told seats earlier [] index line h = h
no_records told seats earlier (name ∷ names) index line (inl (inl long)) = let e = long.tells in cc
no_records told seats earlier (name ∷ names) index line (inl (inr bad)) =
    not_told index line _ bad.is_read.fault bad.is_read.tells
no_records told seats earlier (name ∷ names) index line (inr (r, say, more)) =
    no_records told seats (earlier ++ r ∷ []) names index line more

-- no order does what records say that contradict
none_done : (told : Option (List NamedFile)) (word : List ℕ) (names : List (List ℕ)) (w : World)
    (records : List Record) (status : Status) → GivesRecords told word names w records →
    Contradicts w records status → CanBeDone (rules_of w) (opening w.table w.nodes) records → ⊥
none_done told word names w records status given bad order =
    let R = rules_of w in
    let read = files_read told w.nodes names [] records given.say in
    let sound = read_sound w.nodes read.0 records read.1 in
    fault_stands R records w.nodes (inputs_commute R w.nodes) (blocks_in records)
    (opening w.table w.nodes) (threads_of records) bad.fault IsReached.at_opening
    (threads_apart records sound.apart) (fault_over w records bad.fault bad.is_fault) order

-- where the answer is a contradiction, no order does what the records say
pub no_order : (told : Option (List NamedFile)) (word : List ℕ) (names : List (List ℕ))
    (index line : ℕ) → RefusesWeaving told word names (Contradiction index line) →
    HaveNoOrder told word names
no_order told word names index line (inl h) = absurd (no_world told word index line h)
no_order told word names index line (inr (inl h)) =
    absurd (no_records told h.world.nodes [] names index line h.refuses)
no_order told word names index line (inr (inr h)) = record {
  world = h.world;
  records = h.records;
  given = h.given;
  none =
      none_done told word names h.world h.records (Contradiction index line) h.given h.contradicts;
}

-- ---- records that are altered

-- no world is refused as a record
no_record_of : (told : Option (List NamedFile)) (word : List ℕ) (index line : ℕ) →
    RefusesWorld told word (BadRecord index line) → ⊥
no_record_of told word index line (none, inl long) = let e = long.tells in cc
no_record_of told word index line (none, inr bad) = let e = bad.is_read.tells in cc

-- nor are records that contradict
no_fault : (fault : WeaveFault) (index line : ℕ) → BadRecord index line ≡ told_of_weaving fault → ⊥
no_fault (weaving.Contradiction at of) index line e = cc
no_fault weaving.Memory index line e = cc

module _ (told : Option (List NamedFile)) (word : List ℕ) (names : List (List ℕ)) where
  -- a world is refused otherwise
  pub world_altered : (unread : Type 0) (status : Status) →
      Stops unread ⊥ (RefusesWorld told word) status → TellsAltered told word names status
  world_altered unread (Contradiction index line) stopped =
      absurd (no_world told word index line stopped)
  world_altered unread (BadRecord index line) stopped =
      absurd (no_record_of told word index line stopped)
  world_altered unread _ stopped = tt

  -- where a file is no record, not all were written by nodes that served
  pub records_altered : (unread : Type 0) (w : World) → IsSound w → GivesWorld told word w →
      (status : Status) → Stops unread ⊥ (SayNoRecords told w.nodes [] names) status →
      TellsAltered told word names status
  records_altered unread w sound gives (Contradiction index line) stopped =
      absurd (no_records told w.nodes [] names index line stopped)
  records_altered unread w sound gives (BadRecord index line) stopped =
      tells_not_served w sound told word names index line gives stopped
  records_altered unread w sound gives _ stopped = tt

  module _ (w : World) (sound : IsSound w) (records : List Record)
      (given : GivesRecords told word names w records) where
    -- those that contradict over a world that was read are altered
    told_altered : (status : Status) → Stops ⊥ ⊥ (Contradicts w records) status →
        TellsAltered told word names status
    told_altered (Contradiction index line) bad = record {
      world = w;
      records = records;
      given = given;
      altered = λ x.
          none_done told word names w records (Contradiction index line) given bad
          (subst (CanBeDone (rules_of w) (opening w.table w.nodes)) x.are
          (exchanged_done w.table (native_act (behaviour_of w)) w.nodes sound.opens
          (sound_keeps w sound) x.runs x.exchanged));
    }
    told_altered (BadRecord index line) bad = absurd (no_fault bad.fault index line bad.tells)
    told_altered _ bad = tt

    -- so it is of what is answered
    pub woven_altered : (result : Result (List ℕ) Status) →
        IfErr result (Stops ⊥ ⊥ (Contradicts w records)) →
        IfErr result (TellsAltered told word names)
    woven_altered (Ok text) stopped = tt
    woven_altered (Err status) stopped = told_altered status stopped

  -- what stops a sink is no contradiction
  sink_told : (failed : Type 0) (status : Status) → Stops ⊥ failed (λ st. ⊥) status →
      TellsAltered told word names status
  sink_told failed (Contradiction index line) stopped = absurd stopped
  sink_told failed (BadRecord index line) stopped = absurd stopped
  sink_told failed _ stopped = tt

  -- so it is of what is answered
  pub sink_altered : (failed : Type 0) (result : Result Unit Status) →
      IfErr result (Stops ⊥ failed (λ st. ⊥)) → IfErr result (TellsAltered told word names)
  sink_altered failed (Ok done) stopped = tt
  sink_altered failed (Err status) stopped = sink_told failed status stopped

  -- and of the status of the command
  pub answer_altered : (result : Result Unit Status) →
      IfErr result (TellsAltered told word names) → TellsAltered told word names (answer_of result)
  answer_altered (Ok done) told_so = tt
  answer_altered (Err status) told_so = told_so

-- memory that ran out is no contradiction, whatever the command is
pub memory_altered : (told : Option (List NamedFile)) (command : Option Command) →
    IfSome command (AnswersAltered told Memory)
memory_altered told None = tt
memory_altered told (Some (Weave world names)) = tt
memory_altered told (Some _) = tt

-- ---- orders

-- what is woven is an order of all inputs
order_is : (w : World) (records : List Record) (lines : List Line) →
    woven (rules_of w) (opening w.table w.nodes) records ≡ Ok lines →
    CanBeDone (rules_of w) (opening w.table w.nodes) records
order_is w records lines e =
    let R = rules_of w in
    let S = opening w.table w.nodes in
    let o = woven_order R records (blocks_in records) S (threads_of records) lines e in
    subst (λ n. HasOrder n R S records (threads_of records)) (order_of_all records R o.0 S o.1) o.1

-- and where a schedule is woven, some order does
pub some_order : (told : Option (List NamedFile)) (word : List ℕ) (names : List (List ℕ))
    (text : List ℕ) → IsWoven told word names text → HaveOrder told word names
some_order told word names text h =
    let w : World = h.world in
    record {
      world = w;
      records = h.records;
      given = h.given;
      order = order_is w h.records h.weaves.lines
          (over_world w h.records h.weaves.lines h.weaves.is_woven);
    }
