-- The calls of a link as they are told, and how the logic stores them.
use Rattle.do_told.specs.declared.calls.Call.TheVariants as call
use Rattle.std.specs.Prelude.{◌≡◌, ℕ, List, [], Bool, true, false, cond, ◌==◌, refl}
use Rattle.std.specs.Coded.{Coded, code_by, coded×, coded_list, coded_ℕ}
use Rattle.do_link.specs.Told.{Told, Listened, Came, Handed, handed, came}
use Rattle.do_link.specs.declared.script.ScriptEvent.TheVariants.{Bytes, Ended, Quiet}
use Rattle.do_told.specs.declared.calls.Call.{Call}

-- a call as a link tells it
abbrev pub told_of : Call → Told
told_of (call.Listened port peers failed) = Listened port peers.now failed
told_of (call.Came event buf) = Came (came event buf.now)
told_of (call.Sent to bytes failed) = handed to bytes.now failed

-- a number for the kind of a call, its port, and its list
abbrev Parts : Type 0
Parts = ℕ × (ℕ × List ℕ)

-- one of two numbers, by whether a call failed
abbrev by_failure : Bool → ℕ → ℕ → ℕ
by_failure failed done lost = cond failed lost done

abbrev to_parts : Told → Parts
to_parts (Listened port peers failed) = (by_failure failed 0 1, (port, peers))
to_parts (Came (Bytes peer piece)) = (2, (peer, piece))
to_parts (Came (Ended peer)) = (3, (peer, []))
to_parts (Came Quiet) = (4, (0, []))
to_parts (Handed sent) = (by_failure sent.failed 5 6, (sent.to, sent.bytes))

abbrev from_parts : Parts → Told
from_parts p =
    cond (p.0 == 0) (Listened p.1.0 p.1.1 false) (cond (p.0 == 1) (Listened p.1.0 p.1.1 true)
    (cond (p.0 == 2) (Came (Bytes p.1.0 p.1.1)) (cond (p.0 == 3) (Came (Ended p.1.0))
    (cond (p.0 == 4) (Came Quiet) (handed p.1.0 p.1.1 (p.0 == 6))))))

-- a call is what its parts come back to
pub told_again : (t : Told) → from_parts (to_parts t) ≡ t
told_again (Listened port peers false) = refl
told_again (Listened port peers true) = refl
told_again (Came (Bytes peer piece)) = refl
told_again (Came (Ended peer)) = refl
told_again (Came Quiet) = refl
told_again (Handed sent) = handed_again sent.to sent.bytes sent.failed
  where
    handed_again : (to : ℕ) (bytes : List ℕ) (failed : Bool) →
        from_parts (to_parts (handed to bytes failed)) ≡ handed to bytes failed
    handed_again to bytes false = refl
    handed_again to bytes true = refl

abbrev pub told_code : Coded Told
told_code = code_by Parts (coded× coded_ℕ (coded× coded_ℕ (coded_list coded_ℕ)))
    to_parts from_parts told_again
