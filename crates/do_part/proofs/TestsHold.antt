-- What holds where a test of two parts, or one of an order, holds.
use Rattle.std.{proofs.Common.{◌≡◌, ◌&&◌, Bool, true, false, T, refl}, specs.Ordering.is_lt}
use Rattle.std.specs.declared.cmp.Ordering.{Ordering, TheVariants.{Less, Equal, Greater}}

-- of two parts the first
pub first_holds : (a b : Bool) → T (a && b) → T a
first_holds true b p = tt
first_holds false b p = p

-- and the second
pub second_holds : (a b : Bool) → T (a && b) → T b
second_holds true b p = p
second_holds false b p = absurd p

-- what is tested to come before comes before
pub is_less : {r : Ordering} → T (is_lt r) → r ≡ Less
is_less {r = Less} p = refl
is_less {r = Equal} p = absurd p
is_less {r = Greater} p = absurd p
