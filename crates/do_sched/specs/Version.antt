-- What the two versions of schedules differ in.
use Rattle.std.specs.Prelude.{ℕ, Bool, true, false, List, codes}
use Rattle.do_base.specs.values.Texts.{longest_text}
use Rattle.do_sched.specs.declared.version.Version.{Version, TheVariants.{First, Second}}

-- the first line of a schedule
abbrev pub header : Version → List ℕ
header First = codes "schedule 1"
header Second = codes "schedule 2"

-- the most bytes of a text that is a value
abbrev pub longest : Version → ℕ
longest First = 65535
longest Second = longest_text

-- whether a line may be a time-out
abbrev pub has_timeouts : Version → Bool
has_timeouts First = false
has_timeouts Second = true
