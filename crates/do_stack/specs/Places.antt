-- Where the invocation that waits for a call stands.
use Rattle.std.specs.Prelude.{◌≡◌, ◌<◌, ℕ, true, false, List, length, slice_index_or}
use Rattle.do_base.specs.names.Names.{CallName}
use Rattle.do_behave.specs.declared.invocation.Invocation.{Invocation}
use Rattle.do_stack.specs.Waiting.{waits_for}

-- no invocation waits for the call
abbrev pub NoneWaits : CallName → ℕ → List Invocation → Type 0
NoneWaits call peer stack = (k : ℕ) (d : Invocation) → k < length stack
    → waits_for call peer (slice_index_or stack k d).state ≡ false

-- the topmost invocation that waits for the call stands there
pub record IsPlaceOf (call : CallName) (peer : ℕ) (stack : List Invocation) (at : ℕ) : Type 0
  where
    pub within : at < length stack
    pub waits : (d : Invocation) → waits_for call peer (slice_index_or stack at d).state ≡ true
    pub none_above : (k : ℕ) (d : Invocation) → k < at
        → waits_for call peer (slice_index_or stack k d).state ≡ false
