-- When the core of a server refuses a call.
use Rattle.std.specs.Prelude.{◌≡◌, ℕ, Option, Some, None}
use Rattle.do_native_acts.specs.declared.fault.CoreFault.{CoreFault, TheVariants.{Full, Memory}}

-- A refusal tells the limit exactly where what the call leaves has no room; else memory ran out.
abbrev pub FaultOf : {A : Type 0} → ℕ → Option A → CoreFault → Type 0
FaultOf limit None (Full n) = n ≡ limit
FaultOf limit (Some _) Memory = Unit {0}
FaultOf limit _ _ = ⊥
