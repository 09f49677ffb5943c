-- The status of a command that writes a text.
use Rattle.do_given.specs.declared.status.Status.TheVariants as answer
use Rattle.std.specs.Prelude.{Result, Ok, Err}
use Rattle.do_given.specs.declared.status.Status.{Status}

-- all was written, or why it was not
abbrev pub answer_of : Result Unit Status → Status
answer_of (Ok done) = answer.Ok
answer_of (Err status) = status
