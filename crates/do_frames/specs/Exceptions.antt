-- Exceptions as bytes: the number of each, and a user's text behind it.
use Rattle.std.specs.Prelude.{◌==◌, ℕ, ◌≤◌, List, [], ◌++◌, length, if◌then◌else◌}
use Rattle.do_base.specs.declared.events.exception.Exc.{Exc, TheVariants.{TypeFault, Range, Deep}}
use Rattle.do_base.specs.declared.events.exception.Exc.TheVariants.{NotUnderstood, ConnectionDied}
use Rattle.do_base.specs.declared.events.exception.Exc.TheVariants.{NotVended, TooLarge, User}
use Rattle.do_base.specs.declared.events.exception.Exc.TheVariants.{TimedOut}
use Rattle.do_grammar.specs.{Grammar.IsBytes, Num.{num, num_at, counted, counted_at}}
use Rattle.do_grammar.specs.{OneSpelling.both, Reader.{Reader, no_kind, done, mapped}}

-- ---- one spelling

abbrev pub exc_number : Exc → ℕ
exc_number TypeFault = 1
exc_number Range = 2
exc_number Deep = 3
exc_number NotUnderstood = 4
exc_number ConnectionDied = 5
exc_number NotVended = 6
exc_number TooLarge = 7
exc_number (User text) = 8
exc_number TimedOut = 9

-- the text that only a user's exception has
abbrev pub exc_text : Exc → List ℕ
exc_text (User text) = text
exc_text e = []

-- a text stands behind the number of a user's exception alone
abbrev pub text_spelling : ℕ → List ℕ → List ℕ
text_spelling n text = if n == 8 then counted text else []

abbrev pub exc_spelling : Exc → List ℕ
exc_spelling e = num (exc_number e) ++ text_spelling (exc_number e) (exc_text e)

-- what has a spelling
abbrev pub IsExc : Exc → Type 0
IsExc e = (length (exc_text e) ≤ 1048575) × IsBytes (exc_text e)

-- ---- reading

-- the exception of a number, with its text
abbrev pub exc_of : ℕ × List ℕ → Exc
exc_of p =
    if p.0 == 1 then TypeFault
    else if p.0 == 2 then Range
    else if p.0 == 3 then Deep
    else if p.0 == 4 then NotUnderstood
    else if p.0 == 5 then ConnectionDied
    else if p.0 == 6 then NotVended
    else if p.0 == 7 then TooLarge
    else if p.0 == 8 then User p.1
    else TimedOut

abbrev pub text_at : ℕ → Reader (Unit {0}) (List ℕ)
text_at n = if n == 8 then counted_at no_kind 1048575 else done []

unfoldable pub exc_at : Reader (Unit {0}) Exc
exc_at = mapped exc_of (both (num_at no_kind 1 9) text_at)
