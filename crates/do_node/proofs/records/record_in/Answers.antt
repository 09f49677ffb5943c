use Rattle.do_node.proofs.records.record_in.Goals as goal
use Rattle.do_node.proofs.RecordsTold.{no_record_stops, record_must_be, refusal_must_be}

pub returns-in-Err-clause-stopped : goal.returns-in-Err-clause-stopped
returns-in-Err-clause-stopped c = rw (c.told_of_record.ensures, c.len.ensures)
    (no_record_stops c.args.seats.now c.args.earlier.now c.args.bytes.now c.in-Err.fault
    c.in-Err.ensures.answer)

pub returns-in-Err-clause-accepts : goal.returns-in-Err-clause-accepts
returns-in-Err-clause-accepts c = λ r said. rw c.told_of_record.ensures
    (record_must_be c.args.seats.now c.args.earlier.now c.args.bytes.now c.in-Err.fault r _
    c.in-Err.ensures.answer said)

pub returns-in-Err-clause-refuses : goal.returns-in-Err-clause-refuses
returns-in-Err-clause-refuses c = λ status bad. rw (c.told_of_record.ensures, c.len.ensures)
    (refusal_must_be c.args.seats.now c.args.earlier.now c.args.bytes.now c.in-Err.fault status
    c.in-Err.ensures.answer bad)
