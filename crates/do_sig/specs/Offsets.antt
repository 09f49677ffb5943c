-- The runtime's size or offset, which may stand behind an outermost type: digits, perhaps with a
-- sign.
use Rattle.std.specs.Prelude.{ℕ, ◌==◌, ◌||◌, Option, Some, None, Result, Ok, Err, if◌then◌else◌}
use Rattle.do_grammar.specs.Reader.{by_step, Step, goes, leaves, fails}
use Rattle.do_sig.specs.{declared.fault.Kind.{Kind, TheVariants.BadChar}, Letters.is_digit}

-- nothing yet, a sign, or digits
pub data Offset : Type 0 where
  fresh : Offset
  signed : Offset
  digits : Offset

-- what a byte does there
abbrev pub offset_step : Offset → ℕ → Step Offset Kind
offset_step fresh b =
    if is_digit b then goes digits else (if b == 43 || b == 45 then goes signed else leaves)
offset_step signed b = if is_digit b then goes digits else fails BadChar
offset_step digits b = if is_digit b then goes digits else leaves

-- it may end anywhere but behind the sign
abbrev pub offset_ends : {A : Type 0} → A → Offset → Option A
offset_ends x fresh = Some x
offset_ends x signed = None
offset_ends x digits = Some x

-- the same where nothing else may follow, for a reason
abbrev pub last_step : (ℕ → Kind) → Offset → ℕ → Result Offset Kind
last_step why s b = by_step (offset_step s b) (λ t. Ok t) (Err (why b)) (λ k. Err k)
