-- The kinds of frames by their numbers.
use Rattle.do_frames.specs.declared.kind.Kind.TheVariants as kinds
use Rattle.std.specs.Prelude.{ℕ, ◌==◌, Bool, ◌||◌, nat_le, Option, Some, None, if◌then◌else◌}
use Rattle.do_frames.specs.declared.kind.Kind.{Kind}

-- the number of a kind
abbrev pub kind_number : Kind → ℕ
kind_number kinds.Call = 1
kind_number kinds.Oneway = 2
kind_number kinds.Reply = 3
kind_number kinds.Raised = 4
kind_number kinds.RootAsk = 5
kind_number kinds.RootAnswer = 6
kind_number kinds.Retain = 7
kind_number kinds.Granted = 8
kind_number kinds.Gone = 9
kind_number kinds.Release = 10
kind_number kinds.Settle = 11
kind_number kinds.Shutdown = 12

-- the kind of a number from 1 to 12
abbrev pub kind_at : ℕ → Option Kind
kind_at n =
    if n == 1 then Some kinds.Call
    else if n == 2 then Some kinds.Oneway
    else if n == 3 then Some kinds.Reply
    else if n == 4 then Some kinds.Raised
    else if n == 5 then Some kinds.RootAsk
    else if n == 6 then Some kinds.RootAnswer
    else if n == 7 then Some kinds.Retain
    else if n == 8 then Some kinds.Granted
    else if n == 9 then Some kinds.Gone
    else if n == 10 then Some kinds.Release
    else if n == 11 then Some kinds.Settle
    else if n == 12 then Some kinds.Shutdown
    else None

-- frames of kinds with these numbers hold numbers alone: no packet, no selector and no text
abbrev pub numbers_alone : ℕ → Bool
numbers_alone n = n == 5 || nat_le 7 n
