-- What reading a part of a document answers.
use Rattle.std.specs.Prelude.{◌≡◌, ◌⊎◌, Option, Some, None, Result, Ok, Err}
use Rattle.do_document.specs.declared.fault.WorldFault.{WorldFault, TheVariants.Memory}

-- unless memory ran out, the answer is this one
abbrev pub OrMemory : {A : Type 0} → Result A WorldFault → Result A WorldFault → Type 0
OrMemory wanted result = (result ≡ wanted) ⊎ (result ≡ Err Memory)

-- what reading a part of a document answers: what the part says, and it has no fault; or its first
-- fault, unless memory ran out
abbrev pub Finds : {A : Type 0} → Option WorldFault → (A → Type 0) → Result A WorldFault → Type 0
Finds fault says (Ok x) = (fault ≡ None) × says x
Finds fault says (Err e) = (e ≡ Memory) ⊎ (fault ≡ Some e)
