use Rattle.do_native_acts.proofs.types.is_among.Given as goal
use Rattle.std.{proofs.Common.{◌≡◌, false, take}, specs.{List.list_any, Str.bytes_eq}}

abbrev pub invariant-loop-other : goal.invariant-loop-other
invariant-loop-other l =
    list_any (bytes_eq l.fn.text) (take l.other-index l.others) ≡ false
