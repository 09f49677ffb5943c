-- What an answer means, from what an exact reader gives.
use Rattle.do_sig.specs.declared.fault.Kind.TheVariants as kinds
use Rattle.do_sig.specs.declared.fault.Stop as code
use Rattle.do_sig.specs.declared.fault.EncFault as fault
use Rattle.std.proofs.Common.{◌≡◌, ℕ, ◌-◌, List, length, Result, Ok, Err, refl, sym, ◌∙◌}
use Rattle.std.specs.Prelude.{IfSome, slice_get}
use Rattle.do_grammar.specs.{Reader.{Stop, Whole}, Grammar.{IsBytes, IsFirstBadWhole}}
use Rattle.do_grammar.proofs.reads.WholeExact.{ReadsWhole, left_within_whole, proper_front_whole}
use Rattle.do_grammar.proofs.reads.WholeExact.{first_bad_whole}
use Rattle.do_sig.specs.declared.fault.{Kind.Kind, Stop.TheVariants.{Memory, Short, Bad}}
use Rattle.do_sig.specs.{reading.Gives.{Fails, IsEarlyStop}, Answers.{fault_of_kind, fault_of}}
use Rattle.do_sig.specs.Answers.{IsWithin, answer_of, IsAnswer, Answers, IsOfEncoding, BlamesByte}
use Rattle.do_sig.{specs.Blame.IsBlamed, proofs.{BlameForms.Blames, FaultBytes.blamed_at}}

-- a value under one kind of error or another
ok_same : {A : Type 0} (x y : A) → ◌≡◌ {A = Result A (Stop Kind)} (Ok x) (Ok y)
    → ◌≡◌ {A = Result A fault.EncFault} (Ok x) (Ok y)
ok_same x y e = cc

module _ {A : Type 0} (G : List ℕ → A
    → Type 0) (w : Whole Kind A) (R : ReadsWhole G w) (bytes : List ℕ) (small : IsBytes bytes) where
  -- a reader stops within the bytes
  pub within : (stop : code.Stop) → Fails stop (w bytes) → IsWithin stop (length bytes)
  within Memory h = tt
  within Short h = tt
  within (Bad kind left) h = left_within_whole G w R bytes kind left small h

  -- a first bad byte is one for every kind of fault
  by_kind : (kind : Kind) (place : ℕ) → IsFirstBadWhole G bytes place
      → Answers G bytes (Err (fault_of_kind kind place))
  by_kind kinds.Unsupported place f = f
  by_kind kinds.Deep place f = f
  by_kind kinds.NoSelf place f = f
  by_kind kinds.TooManyArgs place f = f
  by_kind kinds.BadChar place f = f

  -- a fault means by the grammar what the reader found
  pub fault_means : (stop : code.Stop) → Fails stop (w bytes)
      → Answers G bytes (Err (fault_of stop (length bytes)))
  fault_means Memory h = tt
  fault_means Short h = proper_front_whole G w R bytes small h
  fault_means (Bad kind left) h =
      by_kind kind (length bytes - left) (first_bad_whole G w R bytes kind left small h)

  -- a fault of any kind is an answer
  answer_kind : (kind : Kind) (place : ℕ) (expected : Result A fault.EncFault)
      → Err (fault_of_kind kind place) ≡ expected
      → IsAnswer (Err (fault_of_kind kind place)) expected
  answer_kind kinds.Unsupported place expected e = e
  answer_kind kinds.Deep place expected e = e
  answer_kind kinds.NoSelf place expected e = e
  answer_kind kinds.TooManyArgs place expected e = e
  answer_kind kinds.BadChar place expected e = e

  -- a fault is what reading gives
  pub fault_first : (stop : code.Stop) → Fails stop (w bytes)
      → IsAnswer (Err (fault_of stop (length bytes))) (answer_of bytes (w bytes))
  fault_first Memory h = tt
  fault_first Short h = rw h refl
  fault_first (Bad kind left) h =
      answer_kind kind (length bytes - left) (answer_of bytes (w bytes)) (rw h refl)

  -- where there is a fault the bytes spell nothing
  pub fault_only : (stop : code.Stop) → Fails stop (w bytes) → (x : A) → G bytes x
      → IsAnswer (Err (fault_of stop (length bytes))) (Ok x)
  fault_only Memory h x g = tt
  fault_only Short h x g = let same = sym (R.reads_spelling bytes x g) ∙ h in absurd cc
  fault_only (Bad kind left) h x g = let same = sym (R.reads_spelling bytes x g) ∙ h in absurd cc

  -- the value that the bytes spell is the one that was read
  pub value_only : (y : A) → w bytes ≡ Ok y → (x : A) → G bytes x → IsAnswer (Ok y) (Ok x)
  value_only y h x g = ok_same y x (sym h ∙ R.reads_spelling bytes x g)

-- a kind of an encoding by itself gives an answer of one
early_kind : (A : Type 0) (kind : Kind) (place : ℕ) → IsEarlyStop (Bad kind place) → (other : ℕ)
    → IsOfEncoding {A = A} (Err (fault_of_kind kind other))
early_kind A kinds.Unsupported place h other = tt
early_kind A kinds.Deep place h other = tt
early_kind A kinds.NoSelf place h other = absurd h
early_kind A kinds.TooManyArgs place h other = absurd h
early_kind A kinds.BadChar place h other = tt

-- so does a stop
pub early_told : (A : Type 0) (stop : code.Stop) (len : ℕ) → IsEarlyStop stop
    → IsOfEncoding {A = A} (Err (fault_of stop len))
early_told A Memory len h = tt
early_told A Short len h = tt
early_told A (Bad kind left) len h = early_kind A kind left h (len - left)

pub ruleset answers = (fault_first, early_told)

-- a fault is about a byte that may be blamed so
pub fault_blames : {A : Type 0} (w : Whole Kind A) → Blames w → (bytes : List ℕ) → IsBytes bytes
    → (stop : code.Stop) → Fails stop (w bytes)
    → BlamesByte {A = A} bytes (Err (fault_of stop (length bytes)))
fault_blames w b bytes small Memory h = tt
fault_blames w b bytes small Short h = tt
fault_blames {A} w b bytes small (Bad kind left) h =
    by_kind kind (blamed_at bytes kind left (b bytes kind left small h))
  where
    by_kind : (kind : Kind) → IfSome (slice_get bytes (length bytes - left)) (IsBlamed kind)
        → BlamesByte {A = A} bytes (Err (fault_of_kind kind (length bytes - left)))
    by_kind kinds.Unsupported p = p
    by_kind kinds.Deep p = p
    by_kind kinds.NoSelf p = p
    by_kind kinds.TooManyArgs p = p
    by_kind kinds.BadChar p = tt
