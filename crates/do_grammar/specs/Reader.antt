-- Readers of bytes: functions from bytes to a value and the bytes behind it.
use Rattle.std.specs.Prelude.{ℕ, zero, suc, Bool, List, [], ◌∷◌, length, take, drop, Result, Ok}
use Rattle.std.specs.Prelude.{Err, nat_lt, Option, Some, None, ◌==◌, if◌then◌else◌}

-- why reading stopped: the bytes end too early, or none goes on with the byte that has this many
-- bytes from it to the end
pub data Stop (K : Type 0) : Type 0 where
  short : Stop K
  bad : K → ℕ → Stop K

-- what stands for the kind of a fault where a grammar tells no kinds apart
abbrev pub no_kind : Unit {0}
no_kind = tt

-- a reader gives a value and the bytes after it
abbrev pub Reader : Type 0 → Type 0 → Type 0
Reader K A = List ℕ → Result (A × List ℕ) (Stop K)

infixl 10 ◌>>=◌
-- what a value leads to, unless reading stopped
abbrev pub ◌>>=◌ : {K A B : Type 0} → Result A (Stop K) → (A → Result B (Stop K))
    → Result B (Stop K)
(Ok x) >>= f = f x
(Err e) >>= f = Err e

-- a value that takes no byte
abbrev pub done : {K A : Type 0} → A → Reader K A
done x bytes = Ok (x, bytes)

-- one reader after the other
abbrev pub and_then : {K A B : Type 0} → Reader K A → (A → Reader K B) → Reader K B
and_then r f bytes = r bytes >>= λ x. f x.0 x.1

-- the value that another one stands for
abbrev pub mapped : {K A B : Type 0} → (A → B) → Reader K A → Reader K B
mapped to r = and_then r (λ x. done (to x))

-- one byte that passes a test
abbrev pub byte_of : {K : Type 0} → (ℕ → Bool) → (ℕ → K) → Reader K ℕ
byte_of ok why [] = Err short
byte_of ok why (b ∷ bytes) = if ok b then Ok (b, bytes) else Err (bad (why b) (suc (length bytes)))

-- so many bytes
abbrev pub bytes_of : {K : Type 0} → ℕ → Reader K (List ℕ)
bytes_of n bytes = if nat_lt (length bytes) n then Err short else Ok (take n bytes, drop n bytes)

-- one reader so many times
abbrev pub times : {K A : Type 0} → Reader K A → ℕ → Reader K (List A)
times r zero bytes = Ok ([], bytes)
times r (suc n) bytes = r bytes >>= λ x. times r n x.1 >>= λ xs. Ok (x.0 ∷ xs.0, xs.1)

-- a reader of all the bytes
abbrev pub Whole : Type 0 → Type 0 → Type 0
Whole K A = List ℕ → Result A (Stop K)

-- the value if nothing is left over
abbrev pub ended : {K A : Type 0} → K → A × List ℕ → Result A (Stop K)
ended why (x, []) = Ok x
ended why (x, b ∷ rest) = Err (bad why (suc (length rest)))

-- a reader after which nothing may be left over
abbrev pub whole_of : {K A : Type 0} → K → Reader K A → Whole K A
whole_of why r bytes = r bytes >>= ended why

-- a reader, and then one of all the rest
abbrev pub then_whole : {K A B : Type 0} → Reader K A → (A → Whole K B) → Whole K B
then_whole r f bytes = r bytes >>= λ x. f x.0 x.1

-- what a byte does where a state is read on: it leads to a state, or it belongs to what comes
-- behind, or nothing goes on with it
pub data Step (S K : Type 0) : Type 0 where
  goes : S → Step S K
  leaves : Step S K
  fails : K → Step S K

-- what follows a step, by its three kinds
abbrev pub by_step : {S K A : Type 0} → Step S K → (S → A) → A → (K → A) → A
by_step (goes s) f x g = f s
by_step leaves f x g = x
by_step (fails k) f x g = g k

-- bytes that lead from state to state, and a reader behind them that the last state chooses
abbrev pub scan : {S K A : Type 0} → (S → ℕ → Step S K) → (S → Reader K A) → S → Reader K A
scan step f s [] = Err short
scan step f s (b ∷ bytes) =
    by_step (step s b) (λ t. scan step f t bytes) (f s (b ∷ bytes)) (λ k.
    Err (bad k (suc (length bytes))))

-- the state that such bytes lead to, and what comes behind
abbrev pub scan_to : {S K : Type 0} → (S → ℕ → Step S K) → S → Reader K S
scan_to step s [] = Err short
scan_to step s (b ∷ bytes) =
    by_step (step s b) (λ t. scan_to step t bytes) (Ok (s, b ∷ bytes)) (λ k.
    Err (bad k (suc (length bytes))))

-- the value of the last state, if it has one
abbrev pub accepted : {K A : Type 0} → Option A → Result A (Stop K)
accepted None = Err short
accepted (Some x) = Ok x

-- what follows a step of a machine, by its two kinds
abbrev pub by_result : {S K A : Type 0} → Result S K → (S → A) → (K → A) → A
by_result (Ok s) f g = f s
by_result (Err k) f g = g k

-- bytes that lead from state to state up to their end
abbrev pub automaton : {S K A : Type 0} → (S → ℕ → Result S K) → (S → Option A) → S → Whole K A
automaton step accept s [] = accepted (accept s)
automaton step accept s (b ∷ bytes) =
    by_result (step s b) (λ t. automaton step accept t bytes) (λ k.
    Err (bad k (suc (length bytes))))

-- values up to a byte that ends them
abbrev pub until_within : {K A : Type 0} → ℕ → Reader K A → ℕ → Reader K (List A)
until_within end r zero bytes = Err short
until_within end r (suc n) [] = Err short
until_within end r (suc n) (b ∷ bytes) =
    if b == end then Ok ([], bytes) else (r (b ∷ bytes) >>= λ x. until_within end r n x.1 >>= λ xs.
    Ok (x.0 ∷ xs.0, xs.1))

-- the same, with a bound that is never reached
unfoldable pub until : {K A : Type 0} → ℕ → Reader K A → Reader K (List A)
until end r bytes = until_within end r (suc (length bytes)) bytes
