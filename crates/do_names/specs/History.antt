-- What the calls made so far leave.
use Rattle.std.specs.Prelude.{List, []}
use Rattle.do_native_acts.specs.History.{after_calls}
use Rattle.do_names.specs.{Calls.does, declared.calls.Call.Call, Core.Entry}

-- the names after these calls, of which the first made stands last
abbrev pub after : List Call → List Entry
after h = after_calls [] does h
