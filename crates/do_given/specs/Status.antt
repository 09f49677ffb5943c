-- What the program tells of each status.
use Rattle.do_base.specs.declared.outside.sink.PutFail.TheVariants as put
use Rattle.std.specs.Prelude.{ℕ, List, ◌++◌, codes, decimal}
use Rattle.do_base.specs.declared.outside.sink.PutFail.{PutFail}
use Rattle.do_given.specs.declared.status.Status.{Status}
use Rattle.do_given.specs.declared.status.Status.TheVariants.{Ok, Usage, ReadFault, TooLong}
use Rattle.do_given.specs.declared.status.Status.TheVariants.{BadWorld, BadSchedule, WriteFault}
use Rattle.do_given.specs.declared.status.Status.TheVariants.{Memory, BadRecord, Contradiction}
use Rattle.do_given.specs.declared.status.Status.TheVariants.{TurnsSpent, ChildFailed, LinkFault}

-- the number that the program ends with
abbrev pub exit_number : Status → ℕ
exit_number Ok = 0
exit_number (Usage word) = 2
exit_number ReadFault = 3
exit_number (TooLong read limit) = 4
exit_number (BadWorld fault) = 5
exit_number (BadSchedule line) = 6
exit_number WriteFault = 7
exit_number (TurnsSpent turns) = 8
exit_number (ChildFailed index end) = 9
exit_number Memory = 10
exit_number LinkFault = 11
exit_number (BadRecord index line) = 13
exit_number (Contradiction index line) = 14

-- the text of each
abbrev pub status_text : Status → List ℕ
status_text Ok = codes "ok"
status_text (Usage word) = codes "usage: word " ++ decimal word
status_text ReadFault = codes "read fault"
status_text (TooLong read limit) = codes "file longer than " ++ decimal limit ++ codes " bytes"
status_text (BadWorld fault) = codes "bad world"
status_text (BadSchedule line) = codes "bad line " ++ decimal line
status_text WriteFault = codes "write fault"
status_text (TurnsSpent turns) = decimal turns ++ codes " turns spent"
status_text (ChildFailed index end) = codes "child " ++ decimal index ++ codes " failed"
status_text Memory = codes "out of memory"
status_text LinkFault = codes "link fault"
status_text (BadRecord index line) =
    codes "bad record " ++ decimal index ++ codes " line " ++ decimal line
status_text (Contradiction index line) =
    codes "record " ++ decimal index ++ codes " line " ++ decimal line ++ codes " contradicts"

-- the status where a put wrote nothing
abbrev pub status_of : PutFail → Status
status_of put.Failed = WriteFault
status_of put.Memory = Memory
