use Rattle.do_node.proofs.weaving.woven_given.Goals as goal
use Rattle.std.proofs.Common.{◌∙◌, Ok}
use Rattle.do_node.proofs.{KeptWithin.{ok_tells, world_bounded}, OrdersKept.records_altered}
use Rattle.do_node.proofs.{OrdersKept.{world_altered, woven_altered}, WovenTold.contradiction_stops}
use Rattle.do_node.proofs.WovenTold.{records_refuse, records_stop, records_stop_text, woven_here}
use Rattle.do_node.proofs.WovenTold.{woven_refuses, world_refuses, world_stops}
use Rattle.do_given.proofs.Stopping.{give_any}

-- where no world was read, the world stops it
pub returns-in-Err-clause-stopped : goal.returns-in-Err-clause-stopped
returns-in-Err-clause-stopped g c =
    world_stops c.args.word.now c.args.names.now _ _ _ c.in-Err.status c.in-Err.ensures.stopped

-- where no world was read though files give one, a file was not read
pub returns-in-Err-clause-accepts : goal.returns-in-Err-clause-accepts
returns-in-Err-clause-accepts g c = λ files text is woven.
    give_any woven.world (Ok text) c.in-Err.status
    (c.in-Err.ensures.accepts files woven.world is woven.given.gives)

-- where no world was read, the status is that of the world
pub returns-in-Err-clause-refuses : goal.returns-in-Err-clause-refuses
returns-in-Err-clause-refuses g c = λ files status is none.
    world_refuses c.args.word.now c.args.names.now files c.in-Err.status
    (λ st no. c.in-Err.ensures.refuses files st is no)
    (λ w gives. c.in-Err.ensures.accepts files w is gives) status none

-- where a world was read and a record was not, the record stops it
pub returns-in-Err-records_given-clause-stopped : goal.returns-in-Err-records_given-clause-stopped
returns-in-Err-records_given-clause-stopped g c =
    let ended = c.in-Err-records_given in
    records_stop c.args.word.now c.args.names.now _ _ _ _ _ c.in-Ok.world _ ended.status
    c.in-Ok.ensures.same c.in-Ok.ensures.later c.new-none.ensures c.in-Ok.ensures.gives
    (rw c.as_slice.ensures at ended.ensures.stopped)

-- where records were not read though files give them, a file was not read
pub returns-in-Err-records_given-clause-accepts : goal.returns-in-Err-records_given-clause-accepts
returns-in-Err-records_given-clause-accepts g c = λ files text is woven.
    let ended = c.in-Err-records_given in
    records_stop_text c.args.word.now c.args.names.now files c.in-Ok.world
    (λ w gives. c.in-Ok.ensures.accepts files w is gives) ended.status
    (λ rs say. ended.ensures.accepts files rs (c.in-Ok.ensures.same ∙ is)
    (rw (c.as_slice.ensures, c.new-none.ensures) say)) text woven

-- where a record was not read, the status is that of the record
pub returns-in-Err-records_given-clause-refuses : goal.returns-in-Err-records_given-clause-refuses
returns-in-Err-records_given-clause-refuses g c = λ files status is none.
    let ended = c.in-Err-records_given in
    records_refuse c.args.word.now c.args.names.now files c.in-Ok.world
    (λ w gives. c.in-Ok.ensures.accepts files w is gives) ended.status
    (λ st no. c.in-Ok.ensures.refuses files st is no)
    (λ st no. ended.ensures.refuses files st (c.in-Ok.ensures.same ∙ is)
    (rw (c.as_slice.ensures, c.new-none.ensures) no))
    (λ rs say. ended.ensures.accepts files rs (c.in-Ok.ensures.same ∙ is)
    (rw (c.as_slice.ensures, c.new-none.ensures) say)) status none

-- where all were read, a contradiction alone stops it
pub returns-clause-stopped : goal.returns-clause-stopped
returns-clause-stopped g c =
    let read = c.in-Ok-records_given in
    contradiction_stops c.args.word.now c.args.names.now _ _ c.in-Ok.world read.records _
    (record {
      gives = c.in-Ok.ensures.gives;
      say = rw (c.in-Ok.ensures.same, c.as_slice.ensures, c.new-none.ensures) at read.ensures.says;
    }) c.woven_text.ensures.stopped

-- where all were read, the text is the one that files give
pub returns-clause-accepts : goal.returns-clause-accepts
returns-clause-accepts g c = λ files text is woven.
    let read = c.in-Ok-records_given in
    woven_here c.args.word.now c.args.names.now files c.in-Ok.world
    (λ w gives. c.in-Ok.ensures.accepts files w is gives) read.records
    (λ rs say. read.ensures.accepts files rs (c.in-Ok.ensures.same ∙ is)
    (rw (c.as_slice.ensures, c.new-none.ensures) say)) _ c.woven_text.ensures.accepts text woven

-- where all were read, the status is that of what is woven
pub returns-clause-refuses : goal.returns-clause-refuses
returns-clause-refuses g c = λ files status is none.
    let read = c.in-Ok-records_given in
    woven_refuses c.args.word.now c.args.names.now files c.in-Ok.world
    (λ w gives. c.in-Ok.ensures.accepts files w is gives) read.records
    (λ rs say. read.ensures.accepts files rs (c.in-Ok.ensures.same ∙ is)
    (rw (c.as_slice.ensures, c.new-none.ensures) say)) _
    (λ st no. c.in-Ok.ensures.refuses files st is no)
    (λ st no. read.ensures.refuses files st (c.in-Ok.ensures.same ∙ is)
    (rw (c.as_slice.ensures, c.new-none.ensures) no)) c.woven_text.ensures.refuses status none

-- a world is not refused as a contradiction
pub returns-in-Err-clause-altered : goal.returns-in-Err-clause-altered
returns-in-Err-clause-altered g c =
    world_altered _ c.args.word.now c.args.names.now _ c.in-Err.status c.in-Err.ensures.stopped

-- where a file is no record, not all were written by nodes that served
pub returns-in-Err-records_given-clause-altered : goal.returns-in-Err-records_given-clause-altered
returns-in-Err-records_given-clause-altered g c =
    let ended = c.in-Err-records_given in
    records_altered _ c.args.word.now c.args.names.now _ c.in-Ok.world c.in-Ok.ensures.sound
    c.in-Ok.ensures.gives ended.status
    (rw (c.in-Ok.ensures.same, c.as_slice.ensures, c.new-none.ensures) at ended.ensures.stopped)

-- records that contradict are altered
pub returns-clause-altered : goal.returns-clause-altered
returns-clause-altered g c =
    let read = c.in-Ok-records_given in
    woven_altered _ c.args.word.now c.args.names.now c.in-Ok.world c.in-Ok.ensures.sound
    read.records (record {
      gives = c.in-Ok.ensures.gives;
      say = rw (c.in-Ok.ensures.same, c.as_slice.ensures, c.new-none.ensures) at read.ensures.says;
    }) _ c.woven_text.ensures.stopped

-- all that was done stays within what frames can spell
pub returns-clause-bounded : goal.returns-clause-bounded
returns-clause-bounded g c =
    ok_tells _ (record {
      world = c.in-Ok.world;
      gives = c.in-Ok.ensures.gives;
      bounded = world_bounded c.in-Ok.world c.in-Ok.ensures.sound;
    }) c.woven_text.result
