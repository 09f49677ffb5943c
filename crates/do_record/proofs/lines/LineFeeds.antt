-- The lines of a record have their line feed alone.
use Rattle.do_base.specs.declared.events.shown.Shown.TheVariants as shown
use Rattle.do_base.specs.declared.events.shown.Took.TheVariants as took
use Rattle.do_sched.specs.declared.line.Line.TheVariants as lines
use Rattle.std.proofs.Common.{◌≡◌, ℕ, List as Listed, ◌∷◌, ◌++◌, refl, subst, arith}
use Rattle.std.specs.{Prelude.codes, Fmt.decimal}
use Rattle.do_base.specs.declared.events.exception.Exc.{Exc, TheVariants.{ConnectionDied, Deep}}
use Rattle.do_base.specs.declared.events.exception.Exc.TheVariants.{NotUnderstood, NotVended, Range}
use Rattle.do_base.specs.declared.events.exception.Exc.TheVariants.{TimedOut, TooLarge, TypeFault}
use Rattle.do_base.specs.declared.events.{exception.Exc.TheVariants.User, shown.Shown.Shown}
use Rattle.do_base.specs.declared.{events.shown.Took.Took, values.value.Value.TheVariants.Text}
use Rattle.do_grammar.{specs.{Quoted.quoted, Words.Without}, proofs.texts.IntExact.Without-decimal}
use Rattle.do_grammar.proofs.texts.{NameBytes.Without-selector, WordBytes.Without-append}
use Rattle.do_lines.specs.Shown.{exception_text, shown_text, took_text}
use Rattle.do_sched.specs.{Good.{IsPort, text}, Spelling.number_pair, Value.object_name}
use Rattle.do_sched.specs.{Value.value_text, declared.version.Version.TheVariants.Second}
use Rattle.do_sched.proofs.{LineWithoutFeed.no_feed, ValuesExact.value_text-Text}
use Rattle.do_record.specs.{Good.IsGoodInput, GoodShown.{IsException, IsShown, IsTook}}
use Rattle.do_record.specs.{Spelling.input_text, declared.parts.RecordLine.RecordLine}
use Rattle.do_record.specs.declared.parts.RecordLine.TheVariants.{Close, Ended, Run, Start, Take}
use Rattle.do_record.proofs.lines.ValueFeeds.{free_behind, free_worded, literal, object_free}
use Rattle.do_record.proofs.lines.ValueFeeds.{plain_free, value_free}

-- ---- what is shown

-- no exception has one
exception_free : (e : Exc) → IsException e → Without 10 (exception_text e)
exception_free TypeFault h = literal (codes "Type") refl
exception_free Range h = literal (codes "Range") refl
exception_free Deep h = literal (codes "Deep") refl
exception_free NotUnderstood h = literal (codes "NotUnderstood") refl
exception_free ConnectionDied h = literal (codes "ConnectionDied") refl
exception_free NotVended h = literal (codes "NotVended") refl
exception_free TimedOut h = literal (codes "TimedOut") refl
exception_free TooLarge h = literal (codes "TooLarge") refl
exception_free (User bytes) h =
    free_worded (codes "User ") (quoted bytes) refl (subst (Without 10) (value_text-Text bytes)
    (plain_free (Text bytes) (text bytes refl h.0 h.1)))

-- nothing that is taken has one
item_free : (item : Took) → IsTook item → Without 10 (took_text item)
item_free (took.Call selector) h =
    free_worded (codes "call ") selector refl (Without-selector 10 selector refl h)
item_free (took.Oneway selector) h =
    free_worded (codes "oneway ") selector refl (Without-selector 10 selector refl h)
item_free took.Reply h = literal (codes "reply") refl
item_free (took.Raised e) h =
    free_worded (codes "raised ") (exception_text e) refl (exception_free e h)
item_free took.RootAsk h = literal (codes "rootask") refl
item_free took.RootAnswer h = literal (codes "rootanswer") refl
item_free (took.Ask o) h = free_worded (codes "ask ") (object_name o) refl (object_free o h)
item_free (took.Granted o) h = free_worded (codes "granted ") (object_name o) refl (object_free o h)
item_free (took.Gone o) h = free_worded (codes "gone ") (object_name o) refl (object_free o h)
item_free (took.Left o) h = free_worded (codes "left ") (object_name o) refl (object_free o h)
item_free took.Settled h = literal (codes "settled") refl
item_free took.End h = literal (codes "end") refl

-- nor has a text without one free_behind a node's port
ported : (port : ℕ) (rest : Listed ℕ) → IsPort port → Without 10 rest
    → Without 10 (decimal port ++ 32 ∷ rest)
ported port rest h free =
    let most = h.1 in
    Without-append 10 (decimal port) (32 ∷ rest)
    (Without-decimal 10 port (omega arith) (omega arith)) (λ (e : 32 ≡ 10). omega arith, free)

-- nothing that is shown has one
pub shown_free : (port : ℕ) (s : Shown) → IsPort port → IsShown s → Without 10 (shown_text port s)
shown_free port (shown.Took item) h good =
    free_worded (codes "took ") (took_text item) refl (item_free item good)
shown_free port (shown.Say v) h good =
    free_worded (codes "say ") (decimal port ++ 32 ∷ value_text v) refl
    (ported port (value_text v) h (value_free 8 v good))
shown_free port (shown.Return v) h good =
    free_worded (codes "return ") (decimal port ++ 32 ∷ value_text v) refl
    (ported port (value_text v) h (value_free 8 v good))
shown_free port (shown.Raise e) h good =
    free_worded (codes "raise ") (decimal port ++ 32 ∷ exception_text e) refl
    (ported port (exception_text e) h (exception_free e good))
shown_free port (shown.Free o) h good =
    free_worded (codes "free ") (object_name o) refl (object_free o good)

-- ---- inputs

-- no input has one
input_free : (port : ℕ) (input : RecordLine) → IsGoodInput port input
    → Without 10 (input_text port input)
input_free port (Start selector values) h = no_feed Second (lines.Start port selector values) h
input_free port Run h = no_feed Second (lines.Run port 1) (h, omega arith, omega arith)
input_free port (Take from) h = no_feed Second (lines.Take port from) h
input_free port (Close peer) h = no_feed Second (lines.Close port peer) h
input_free port (Ended peer) h =
    free_worded (codes "ended ") (number_pair port peer) refl
    (free_behind (codes "take ") (number_pair port peer) (no_feed Second (lines.Take port peer) h))

-- nor has it free_behind an angle bracket
pub marked_free : (port : ℕ) (input : RecordLine) → IsGoodInput port input
    → Without 10 (codes "> " ++ input_text port input)
marked_free port input h =
    free_worded (codes "> ") (input_text port input) refl (input_free port input h)

-- nor has the first line of a record
pub header_free : (port : ℕ) → IsPort port → Without 10 (codes "record 1 " ++ decimal port)
header_free port h =
    let most = h.1 in
    free_worded (codes "record 1 ") (decimal port) refl
    (Without-decimal 10 port (omega arith) (omega arith))

-- nor the last
pub end_free : Without 10 (codes "> end")
end_free = literal (codes "> end") refl
