use Rattle.do_record.proofs.laws.readings_are_exact.Goals as goal
use Rattle.std.proofs.Common.{◌≡◌, Ok, sym, subst, ◌∙◌}
use Rattle.do_record.specs.{Grammar.TellsRecord, Recorded.record_of}
use Rattle.do_record.proofs.records.{GoodRecords.one_answer, RecordsGiven.fault_given}
use Rattle.do_record.proofs.records.{RecordsGiven.record_given, RecordsTold.record_tells}

pub returns-clause-records : goal.returns-clause-records
returns-clause-records c = λ bytes r. (
  λ (e : record_of bytes ≡ Ok r). subst (TellsRecord bytes) e (record_tells bytes),
  record_given bytes r,
)

pub returns-clause-faults : goal.returns-clause-faults
returns-clause-faults c = λ bytes n. (
  λ e. subst (TellsRecord bytes) e (record_tells bytes),
  fault_given bytes n,
)

pub returns-clause-one_record : goal.returns-clause-one_record
returns-clause-one_record c = λ bytes r s first second.
    one_answer r s (sym (record_given bytes r first) ∙ record_given bytes s second)
