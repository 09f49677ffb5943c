-- Objects, calls and loans as contracts see them.
use Rattle.std.specs.Prelude.{ℕ}

-- an object's name: its home and its serial
pub record ObjectName : Type 0 where
  pub node : ℕ
  pub serial : ℕ

-- a call's name: the node that made it and its number there
pub record CallName : Type 0 where
  pub node : ℕ
  pub number : ℕ

-- a loan's name: the node that lent and its number there
pub record TokenName : Type 0 where
  pub lender : ℕ
  pub number : ℕ
