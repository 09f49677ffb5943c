-- That a text was added to an output, or its beginning.
use Rattle.std.specs.Prelude.{◌≡◌, ℕ, List, Option}
use Rattle.do_base.specs.outside.Bytes.{with_more, HasWritten}

-- a text that is so was added to an output that tells what it holds
pub record AddsAll (Is : List ℕ → Type 0) (old new : Option (List ℕ)) : Type 0 where
  pub text : List ℕ
  pub writes : Is text
  pub written : new ≡ with_more old text

-- the first bytes of a text that is so were added
pub record AddsFirst (Is : List ℕ → Type 0) (old new : Option (List ℕ)) : Type 0 where
  pub text : List ℕ
  pub writes : Is text
  pub written : HasWritten old new text
