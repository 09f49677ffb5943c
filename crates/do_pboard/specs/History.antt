-- What the calls made so far leave.
use Rattle.std.specs.Prelude.{List}
use Rattle.do_pboard.specs.Core.{Pasteboard, empty}
use Rattle.do_native_acts.specs.History.{after_calls}
use Rattle.do_pboard.specs.{Calls.does, declared.calls.Call.Call}

-- the pasteboard after these calls, of which the first made stands last
abbrev pub after : List Call → Pasteboard
after h = after_calls empty does h
