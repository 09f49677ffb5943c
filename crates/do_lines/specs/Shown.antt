-- How what a step shows is written.
use Rattle.do_base.specs.declared.events.shown.Shown.TheVariants as shown
use Rattle.std.specs.Prelude.{ℕ, List, ◌∷◌, ◌++◌, codes, decimal}
use Rattle.do_base.specs.declared.events.exception.Exc.{Exc, TheVariants.{TypeFault, Range, Deep}}
use Rattle.do_base.specs.declared.events.exception.Exc.TheVariants.{NotUnderstood, ConnectionDied}
use Rattle.do_base.specs.declared.events.exception.Exc.TheVariants.{NotVended, TooLarge, User}
use Rattle.do_base.specs.declared.events.{exception.Exc.TheVariants.TimedOut, shown.Took.Took}
use Rattle.do_base.specs.declared.events.shown.Took.TheVariants.{Call, Oneway, Reply, Raised}
use Rattle.do_base.specs.declared.events.shown.Took.TheVariants.{RootAsk, RootAnswer, Ask, Granted}
use Rattle.do_base.specs.declared.events.shown.Took.TheVariants.{Gone, Left, Settled, End}
use Rattle.do_base.specs.declared.events.shown.Shown.{Shown}
use Rattle.do_grammar.specs.Quoted.{quoted}
use Rattle.do_sched.specs.Value.{object_name, value_text}

-- the exception's name, and for one that a program raised its text
abbrev pub exception_text : Exc → List ℕ
exception_text TypeFault = codes "Type"
exception_text Range = codes "Range"
exception_text Deep = codes "Deep"
exception_text NotUnderstood = codes "NotUnderstood"
exception_text ConnectionDied = codes "ConnectionDied"
exception_text NotVended = codes "NotVended"
exception_text TimedOut = codes "TimedOut"
exception_text TooLarge = codes "TooLarge"
exception_text (User text) = codes "User " ++ quoted text

-- what was taken from a queue
abbrev pub took_text : Took → List ℕ
took_text (Call selector) = codes "call " ++ selector
took_text (Oneway selector) = codes "oneway " ++ selector
took_text Reply = codes "reply"
took_text (Raised exception) = codes "raised " ++ exception_text exception
took_text RootAsk = codes "rootask"
took_text RootAnswer = codes "rootanswer"
took_text (Ask object) = codes "ask " ++ object_name object
took_text (Granted object) = codes "granted " ++ object_name object
took_text (Gone object) = codes "gone " ++ object_name object
took_text (Left object) = codes "left " ++ object_name object
took_text Settled = codes "settled"
took_text End = codes "end"

-- what a node shows; a value or an exception stands behind the node's port
abbrev pub shown_text : ℕ → Shown → List ℕ
shown_text port (shown.Took took) = codes "took " ++ took_text took
shown_text port (shown.Say value) = codes "say " ++ decimal port ++ 32 ∷ value_text value
shown_text port (shown.Return value) = codes "return " ++ decimal port ++ 32 ∷ value_text value
shown_text port (shown.Raise exception) =
    codes "raise " ++ decimal port ++ 32 ∷ exception_text exception
shown_text port (shown.Free object) = codes "free " ++ object_name object
