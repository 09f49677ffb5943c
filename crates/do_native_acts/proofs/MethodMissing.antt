-- The selector of a method is there exactly where the method is.
use Rattle.std.{proofs.Common.{◌≡◌, Option, Some, None, refl}, specs.Option.{option_map, IsSome}}

-- of a method that is not there no question has an answer
pub nothing_of : {A B : Type 0} (f : A → B) (o : Option A) → (IsSome o → ⊥) → option_map f o ≡ None
nothing_of f None none = refl
nothing_of f (Some x) none = absurd (none refl)

pub ruleset missing_steps = (nothing_of)
