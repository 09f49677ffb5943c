-- What an answer of a reader means.
use Rattle.do_sig.specs.declared.fault.Kind.TheVariants as kinds
use Rattle.do_sig.specs.declared.fault.Stop as code
use Rattle.do_sig.specs.declared.fault.Stop.TheVariants as stops
use Rattle.std.specs.Prelude.{◌≡◌, ℕ, ◌-◌, ◌≤◌, List, length, Result, Ok, Err, IfSome, slice_get}
use Rattle.do_grammar.specs.{Reader.{Stop, short, bad}, Grammar.{IsProperFront, IsFirstBadWhole}}
use Rattle.do_sig.specs.{declared.fault.Kind.Kind, Blame.IsBlamed, declared.fault.EncFault.EncFault}
use Rattle.do_sig.specs.declared.fault.EncFault.TheVariants.{BadChar, Ends, Unsupported, Deep}
use Rattle.do_sig.specs.declared.fault.EncFault.TheVariants.{NoSelf, TooManyArgs, Memory}

-- the fault of a kind at a place
abbrev pub fault_of_kind : Kind → ℕ → EncFault
fault_of_kind kinds.Unsupported place = Unsupported place
fault_of_kind kinds.Deep place = Deep place
fault_of_kind kinds.NoSelf place = NoSelf place
fault_of_kind kinds.TooManyArgs place = TooManyArgs place
fault_of_kind kinds.BadChar place = BadChar place

-- the fault of a reader that stopped, by the length of its bytes
abbrev pub fault_of : code.Stop → ℕ → EncFault
fault_of stops.Memory len = Memory
fault_of stops.Short len = Ends
fault_of (stops.Bad kind left) len = fault_of_kind kind (len - left)

-- it stopped within them
abbrev pub IsWithin : code.Stop → ℕ → Type 0
IsWithin (stops.Bad kind left) len = left ≤ len
IsWithin _ len = Unit {0}

-- what reading gives, with the place of its fault
abbrev pub answer_of : {A : Type 0} → List ℕ → Result A (Stop Kind) → Result A EncFault
answer_of bytes (Ok x) = Ok x
answer_of bytes (Err short) = Err Ends
answer_of bytes (Err (bad kind left)) = Err (fault_of_kind kind (length bytes - left))

-- unless memory ran out, the answer is this one
abbrev pub IsAnswer : {A : Type 0} → Result A EncFault → Result A EncFault → Type 0
IsAnswer (Err Memory) expected = Unit {0}
IsAnswer answer expected = answer ≡ expected

-- what the answer means by a grammar: the bytes spell the value, are a proper front of a spelling,
-- or have a first byte with which no spelling goes on
abbrev pub Answers : {A : Type 0} → (List ℕ → A → Type 0) → List ℕ → Result A EncFault → Type 0
Answers G bytes (Ok x) = G bytes x
Answers G bytes (Err Ends) = IsProperFront G bytes
Answers G bytes (Err (BadChar place)) = IsFirstBadWhole G bytes place
Answers G bytes (Err (Unsupported place)) = IsFirstBadWhole G bytes place
Answers G bytes (Err (Deep place)) = IsFirstBadWhole G bytes place
Answers G bytes (Err (NoSelf place)) = IsFirstBadWhole G bytes place
Answers G bytes (Err (TooManyArgs place)) = IsFirstBadWhole G bytes place
Answers G bytes (Err Memory) = Unit {0}

-- an answer about an encoding by itself
abbrev pub IsOfEncoding : {A : Type 0} → Result A EncFault → Type 0
IsOfEncoding (Err (NoSelf place)) = ⊥
IsOfEncoding (Err (TooManyArgs place)) = ⊥
IsOfEncoding _ = Unit {0}

-- the byte at a place may be blamed so
abbrev pub IsBlamedAt : List ℕ → Kind → ℕ → Type 0
IsBlamedAt bytes kind place = IfSome (slice_get bytes place) (IsBlamed kind)

-- each fault is about a byte that may be blamed so
abbrev pub BlamesByte : {A : Type 0} → List ℕ → Result A EncFault → Type 0
BlamesByte bytes (Err (Unsupported place)) = IsBlamedAt bytes kinds.Unsupported place
BlamesByte bytes (Err (Deep place)) = IsBlamedAt bytes kinds.Deep place
BlamesByte bytes (Err (NoSelf place)) = IsBlamedAt bytes kinds.NoSelf place
BlamesByte bytes (Err (TooManyArgs place)) = IsBlamedAt bytes kinds.TooManyArgs place
BlamesByte bytes _ = Unit {0}
