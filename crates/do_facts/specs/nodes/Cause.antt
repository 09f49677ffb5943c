-- What an effect of a node comes of.
use Rattle.std.specs.Prelude.{Bool, List, false, true, ℕ}
use Rattle.do_base.specs.declared.values.value.Value.{Value}
use Rattle.do_machine.specs.declared.item.Item.{Item}

-- the rule by which a node has an effect, with what it is of
pub data Cause : Type 0 where
  -- an invocation is started
  Start : (selector : List ℕ) → (values : List Value) → Cause
  -- the top invocation runs
  Run : Cause
  -- the top invocation waits no longer
  TimeOut : Cause
  -- the end towards a peer is closed
  Close : (peer : ℕ) → Cause
  -- an item of a peer is taken
  Take : (from : ℕ) → (item : Item) → Cause
  -- a step is over: what is not referred to is left, and what nothing holds is freed or not
  Leave : (frees : Bool) → Cause

-- objects are freed
abbrev pub frees : Cause → Bool
frees (Leave freed) = freed
frees _ = false

-- objects are left
abbrev pub leaves : Cause → Bool
leaves (Leave freed) = true
leaves _ = false
