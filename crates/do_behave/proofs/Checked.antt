-- A number that is told exactly where it has 64 bits.
use Rattle.std.proofs.Common.{◌≡◌, Option, Some, None, ℤ, pos, negsuc, arith}
use Rattle.std.specs.{Prelude.FitsSigned, Int.w64, Option.SomeIff}
use Rattle.std.proofs.lemmas.Grind.{common_steps}
use Rattle.do_behave.specs.Numbers.{checked}

pub checked_is : (o : Option ℤ) (z : ℤ) → SomeIff o (FitsSigned w64 z) z → o ≡ checked z
checked_is None (pos n) none = grind (arith, common_steps)
checked_is None (negsuc n) none = grind (arith, common_steps)
checked_is (Some x) (pos n) some = grind (arith, common_steps)
checked_is (Some x) (negsuc n) some = grind (arith, common_steps)
